-- The two_shelf model without its wait action, as document 02, A.1, allows it: in state 2, where the pack is delivered, the work is over. Its
-- verdicts from state 0 over three steps, in which a pack that is delivered with the second step makes the silent move with the third. The last
-- row is operator 9's, by hand. State 1 earns 90 over 10 with one step left, and with two 9 * 100 + 1 * 90 = 990 over 100: delivered, a pack
-- earns no more. State 0 earns at most -10 over 10 with one step left, by action 1; by action 0 8 * (-20 + 90) + 2 * (-20 - 10) = 500 over 100
-- with two, and 8 * (-200 + 990) + 2 * (-200 + 500) = 6920 over 1000 with three.
use Rattle.std.specs.Prelude.{◌≡◌, refl, pos, negsuc}
use mathlib.Core.List.{List, [], ◌∷◌, map, flat_map}
use Rattle.std.proofs.Math.Option.{none}
use Rattle.logic.specs.Lists.{is_empty, all, any, find, keep, product, join, count_from}
use Rattle.logic.specs.Model.{Model, no_action, true_of, mask, prop_in, enabled_actions, deadlocked, enabled, stored, outcomes}
use Rattle.logic.specs.Quantity.{sum, equal, greater, related}
use Rattle.logic.specs.Plan.{plans, choices, paths, weight}
use Rattle.logic.specs.Bound.{total, meets, at, above, compared, lamp, one_if, gain_between}
use Rattle.logic.specs.Formula.{Formula, neg, both, does, next, gain, sat}
use Rattle.logic.specs.Verdict.{leads, is_equal, bound_of, goal, shown, leader, verdict}
use Rattle.logic.specs.TwoShelf.{needs, lit, to, Row, row, gains, shows, denies, done, verdicts_of}

unfoldable pub without_wait : Model
unfolding needs lit to
without_wait =
    record {
      propositions = 2;
      denominator = 10;
      states = 0 ∷ 1 ∷ 2 ∷ [];
      actions =
          needs 0 3 (lit 1 0 ∷ lit 0 1 ∷ [])
          ∷ needs 0 3 (lit 1 0 ∷ lit 0 1 ∷ [])
          ∷ needs 1 0 (lit 2 0 ∷ lit 0 2 ∷ [])
          ∷ [];
      rows =
          ((to 0 1 8 (negsuc 1) ∷ to 0 0 2 (negsuc 1) ∷ []) ∷ (to 1 1 5 (negsuc 0) ∷ to 1 0 5 (negsuc 0) ∷ []) ∷ [] ∷ [])
          ∷ ([] ∷ [] ∷ (to 2 2 9 (pos 10) ∷ to 2 1 1 (pos 0) ∷ []) ∷ [])
          ∷ ([] ∷ [] ∷ [] ∷ [])
          ∷ [];
    }

-- After two steps.
unfoldable pub then : Formula → Formula
then φ = next (next φ)

-- No action is done.
unfoldable pub idle : Formula
idle = both (neg (does 0)) (both (neg (does 1)) (neg (does 2)))

unfoldable pub table : List Row
unfolding row gains shows denies done then idle
table =
    row 3 (then (next done)) greater 9 10 (shows (pos 936) above 3 0 (0 ∷ 2 ∷ 255 ∷ 2 ∷ 0 ∷ 2 ∷ 0 ∷ []))
    ∷ row 3 (then (next done)) equal 720 1000 (shows (pos 720) at 3 7 (1 ∷ 2 ∷ 255 ∷ 2 ∷ 1 ∷ 2 ∷ 0 ∷ []))
    ∷ row 3 (then (next done)) equal 9 10 (denies 8 none)
    ∷ row 3 (then (does 2)) greater 0 1 (shows (pos 450) above 3 0 (1 ∷ 2 ∷ 255 ∷ 2 ∷ 0 ∷ 2 ∷ 0 ∷ []))
    ∷ row 3 (then idle) greater 7 10 (shows (pos 720) above 3 0 (0 ∷ 2 ∷ 255 ∷ 2 ∷ 0 ∷ 2 ∷ 0 ∷ []))
    ∷ row 3 (gain 3 equal (pos 8)) greater 7 10 (shows (pos 792) above 3 0 (0 ∷ 2 ∷ 255 ∷ 2 ∷ 0 ∷ 2 ∷ 0 ∷ []))
    ∷ gains 3 1 3 greater (pos 6) 1 (shows (pos 6920) above 3 0 (0 ∷ 2 ∷ 255 ∷ 2 ∷ 0 ∷ 2 ∷ 1 ∷ []))
    ∷ []

pub without_wait_verdicts : verdicts_of without_wait table ≡ map (λ r. r.answer) table
unfolding without_wait table is_empty all any find keep product join count_from flat_map no_action true_of mask prop_in enabled_actions deadlocked enabled stored outcomes plans choices paths weight sum total one_if gain_between sat meets compared lamp related leads is_equal bound_of goal shown leader verdict
without_wait_verdicts = refl
