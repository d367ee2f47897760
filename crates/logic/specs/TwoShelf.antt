-- The two_shelf model, the verdicts of document 01 that are marked *, with their lamps, of document 02, A.4, and verdicts by expected gain, of
-- document 02, A.3, and by hand.
use Rattle.std.specs.Prelude.{ℕ, ◌≡◌, refl, ℤ, pos, negsuc}
use mathlib.Core.List.{List, [], ◌∷◌, map, flat_map}
use Rattle.std.proofs.Math.Option.{Option, none, some}
use Rattle.logic.specs.Lists.{is_empty, all, any, find, keep, product, join, count_from}
use Rattle.logic.specs.Model.{Model, Step, Literals, Action, no_action, true_of, mask, prop_in, enabled_actions, deadlocked, enabled, stored, outcomes}
use Rattle.logic.specs.Quantity.{sum, Relation, less, equal, greater, related}
use Rattle.logic.specs.Plan.{plans, choices, paths, weight}
use Rattle.logic.specs.Bound.{total, meets, Lamp, below, at, above, compared, lamp, one_if, gain_between}
use Rattle.logic.specs.Formula.{Formula, prop, neg, both, does, next, gain, plan, earns, sat}
use Rattle.logic.specs.Verdict.{Verdict, no, yes_plan, leads, is_equal, bound_of, goal, shown, leader, verdict}

-- How the actions, literals and outcomes of an example are written: a precondition's two masks with postconditions; two masks; the action, the
-- target, the weight and the reward.
unfoldable pub needs : ℕ → ℕ → List Literals → Action
needs t f ps = record { pre = record { positive = t; negative = f }; posts = ps }

unfoldable pub lit : ℕ → ℕ → Literals
lit t f = record { positive = t; negative = f }

unfoldable pub to : ℕ → ℕ → ℕ → ℤ → Step
to a t w r = record { choice = a; target = t; weight = w; reward = r }

unfoldable pub two_shelf : Model
unfolding needs lit to
two_shelf =
    record {
      propositions = 2;
      denominator = 10;
      states = 0 ∷ 1 ∷ 2 ∷ [];
      actions =
          needs 0 3 (lit 1 0 ∷ lit 0 1 ∷ [])
          ∷ needs 0 3 (lit 1 0 ∷ lit 0 1 ∷ [])
          ∷ needs 1 0 (lit 2 0 ∷ lit 0 2 ∷ [])
          ∷ needs 2 0 (lit 2 0 ∷ [])
          ∷ [];
      rows =
          ((to 0 1 8 (negsuc 1) ∷ to 0 0 2 (negsuc 1) ∷ []) ∷ (to 1 1 5 (negsuc 0) ∷ to 1 0 5 (negsuc 0) ∷ []) ∷ [] ∷ [] ∷ [])
          ∷ ([] ∷ [] ∷ (to 2 2 9 (pos 10) ∷ to 2 1 1 (pos 0) ∷ []) ∷ [] ∷ [])
          ∷ ([] ∷ [] ∷ [] ∷ (to 3 2 10 (pos 0) ∷ []) ∷ [])
          ∷ [];
    }

pub record Row : Type 0 where
  pub root : Formula
  pub answer : Verdict

-- A row of a table of examples, with a root of operator 8 or 9, and the two answers in it.
unfoldable pub row : ℕ → Formula → Relation → ℕ → ℕ → Verdict → Row
row n φ r p q v = record { root = plan n φ r p q; answer = v }

unfoldable pub gains : (n l u : ℕ) → Relation → ℤ → ℕ → Verdict → Row
gains n l u r p q v = record { root = earns n l u r p q; answer = v }

unfoldable pub shows : ℤ → Lamp → ℕ → ℕ → List ℕ → Verdict
shows w l n k cs = yes_plan (record { total = w; lamp = l; steps = n; count = k; choices = cs })

unfoldable pub denies : ℕ → Option Lamp → Verdict
denies k l = no (record { count = k; lamp = l })

unfoldable pub held : Formula
held = prop 0

unfoldable pub done : Formula
done = prop 1

-- The rows of operator 9 are document 02's example, A.3, and others worked out by hand. From state 0 action 0 leads to state 1 with 8 in 10 and
-- back with 2, at -2 each; action 1 with 5 and 5, at -1. From state 1 action 2 earns 10 with 9 in 10 and 0 with 1. So over 100, the plans in
-- their order:
--   plan     step 1   step 2                                      both
--   0 2 0     -200    8 * 90 + 2 * (8 * -2 + 2 * -2) = 680         480
--   0 2 1     -200    8 * 90 + 2 * (5 * -1 + 5 * -1) = 700         500
--   1 2 0     -100    5 * 90 + 5 * (8 * -2 + 2 * -2) = 350         250
--   1 2 1     -100    5 * 90 + 5 * (5 * -1 + 5 * -1) = 400         300
-- Of one step, over 10: -20 and -10.
unfoldable pub table : List Row
unfolding row gains shows denies held done
table =
    row 1 (next held) greater 7 10 (shows (pos 8) above 1 0 (0 ∷ []))
    ∷ row 1 (next held) greater 8 10 (denies 0 (some at))
    ∷ row 1 (next held) greater 9 10 (denies 0 (some below))
    ∷ row 1 (next held) equal 5 10 (shows (pos 5) at 1 2 (1 ∷ []))
    ∷ row 2 (next (next done)) equal 72 100 (shows (pos 72) at 2 1 (0 ∷ 2 ∷ 0 ∷ []))
    ∷ row 2 (next (next done)) equal 45 100 (shows (pos 45) at 2 3 (1 ∷ 2 ∷ 0 ∷ []))
    ∷ row 2 (next (next done)) equal 50 100 (denies 4 none)
    ∷ row 2 (next (next held)) greater 0 1 (shows (pos 45) above 2 0 (1 ∷ 2 ∷ 0 ∷ []))
    ∷ row 2 (next (next held)) less 1 1 (shows (pos 18) below 2 0 (0 ∷ 2 ∷ 1 ∷ []))
    ∷ row 2 (next (next held)) less 18 100 (denies 0 (some at))
    ∷ row 2 (next (next held)) less 17 100 (denies 0 (some above))
    ∷ row 2 (gain 2 equal (pos 8)) greater 0 1 (shows (pos 72) above 2 0 (0 ∷ 2 ∷ 0 ∷ []))
    ∷ row 2 (both (does 1) (neg (next (does 1)))) greater 9 10 (shows (pos 100) above 2 0 (1 ∷ 2 ∷ 0 ∷ []))
    ∷ row 1 (next done) equal 0 1 (shows (pos 0) at 1 1 (0 ∷ []))
    ∷ row 1 (next done) less 0 1 (denies 0 (some at))
    ∷ gains 2 2 2 greater (pos 6) 1 (shows (pos 700) above 2 0 (0 ∷ 2 ∷ 1 ∷ []))
    ∷ gains 2 1 1 less (negsuc 0) 1 (shows (negsuc 199) below 2 0 (0 ∷ 2 ∷ 0 ∷ []))
    ∷ gains 2 1 1 equal (negsuc 0) 1 (shows (negsuc 99) at 2 3 (1 ∷ 2 ∷ 0 ∷ []))
    ∷ gains 2 1 1 less (negsuc 1) 1 (denies 0 (some at))
    ∷ gains 2 1 1 less (negsuc 200) 100 (denies 0 (some above))
    ∷ gains 2 2 2 equal (pos 7) 2 (shows (pos 350) at 2 3 (1 ∷ 2 ∷ 0 ∷ []))
    ∷ gains 2 1 2 less (pos 3) 1 (shows (pos 250) below 2 0 (1 ∷ 2 ∷ 0 ∷ []))
    ∷ gains 2 1 2 greater (pos 5) 1 (denies 0 (some at))
    ∷ gains 2 1 2 greater (pos 501) 100 (denies 0 (some below))
    ∷ gains 1 1 1 greater (negsuc 1) 1 (shows (negsuc 9) above 1 0 (1 ∷ []))
    ∷ gains 1 1 1 equal (pos 0) 1 (denies 2 none)
    ∷ []

abbrev pub verdicts_of : Model → List Row → List Verdict
verdicts_of m rows = map (λ r. verdict m 0 r.root) rows

pub two_shelf_verdicts : verdicts_of two_shelf table ≡ map (λ r. r.answer) table
unfolding two_shelf table is_empty all any find keep product join count_from flat_map no_action true_of mask prop_in enabled_actions deadlocked enabled stored outcomes plans choices paths weight sum total one_if gain_between sat meets compared lamp related leads is_equal bound_of goal shown leader verdict
two_shelf_verdicts = refl
