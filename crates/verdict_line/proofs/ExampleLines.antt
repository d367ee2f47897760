-- The lines of some answers are computed: each row of the table has the line as it is printed.
use Prim.Native.Nat.{ℕ}
use Prim.Native.String.{String}
use mathlib.Core.Path.{◌≡◌, refl}
use mathlib.Core.List.{List, [], ◌∷◌, map, flat_map}
use Rattle.logic.specs.Lists.{is_empty, all, any, find, keep, product, join, count_from}
use Rattle.logic.specs.Model.{no_action, true_of, mask, prop_in, enabled_actions, deadlocked, enabled, stored, outcomes}
use lib.IntN.{pos, negsuc}
use Rattle.logic.specs.Quantity.{sum, less, equal, greater, related}
use Rattle.logic.specs.Plan.{plans, choices, paths, weight}
use Rattle.logic.specs.Bound.{total, meets, above, compared, lamp, one_if, gain_between}
use Rattle.logic.specs.Formula.{Formula, never, prop, neg, next, plan, earns, sat}
use Rattle.logic.specs.Verdict.{leads, is_equal, bound_of, goal, shown, leader, verdict}
use Rattle.logic.specs.Reason.{foremost, standing, reason_for, reason}
use Rattle.logic.specs.TwoShelf.{two_shelf}
use Rattle.verdict_line.specs.Text.{text, decimal, decimal_in, signed_decimal}
use Rattle.verdict_line.specs.Line.{lamp_word, optional_word, refused_line, plain_line, no_plans_line, yes_plan_line, bounds_plans, verdict_line}
use Rattle.verdict_line.specs.Reasons.{reached_line, reason_text, whynot_says}

pub record Row : Type 0 where
  pub line : List ℕ
  pub printed : String

row : List ℕ → String → Row
row l t = record { line = l; printed = t }

-- Of a root on the two_shelf model, from state 0.
asked : Formula → List ℕ
asked φ = verdict_line two_shelf φ (verdict two_shelf 0 φ)

-- What whynot says of it.
why : Formula → List ℕ
why φ = whynot_says two_shelf (record { start = 0; nodes = φ ∷ []; root = φ }) (verdict two_shelf 0 φ)

held : Formula
held = prop 0

done : Formula
done = prop 1

-- Of the first step's gain "less than -1", worked out: a plan begins with grip, which earns -2 whatever comes of it, or with quick, which earns -1.
-- All paths of two steps weigh 10 * 10 = 100 together, so the totals are -200 and -100. The bound is -1 * 100 = -100: -200 is less, and is the least.
-- The first plan with it grips, drops in state 1, and grips again in state 0: choices 0 2 0.
unfoldable pub table : List Row
unfolding row asked why held done
table =
    row (asked (plan 2 (next (next done)) equal 45 100)) "yes 45/100 at plans 3 choices 1 2 0\n"
    ∷ row (asked (plan 2 (next (next done)) equal 50 100)) "no plans 4\n"
    ∷ row (asked (plan 1 (next held) greater 8 10)) "no plans 0 at\n"
    ∷ row (asked (plan 1 (next held) greater 9 10)) "no plans 0 below\n"
    ∷ row (asked (plan 2 (next (next held)) less 17 100)) "no plans 0 above\n"
    ∷ row (asked (plan 1 (next done) less 0 1)) "no plans 0 at\n"
    ∷ row (asked (plan 1 (next done) equal 0 1)) "yes 0/10 at plans 1 choices 0\n"
    ∷ row (asked (earns 2 2 2 greater (pos 6) 1)) "yes 700/100 above plans 0 choices 0 2 1\n"
    ∷ row (asked (earns 2 2 2 greater (pos 7) 1)) "no plans 0 at\n"
    ∷ row (asked (earns 2 1 1 less (negsuc 0) 1)) "yes -200/100 below plans 0 choices 0 2 0\n"
    ∷ row (asked (neg done)) "yes\n"
    ∷ row (asked never) "no\n"
    ∷ row (refused_line 24) "refused 24\n"
    ∷ row (yes_plan_line (pos 10_000_000_000) 1_000_000_000_000 above 65536 (7 ∷ [])) "yes 10000000000/1000000000000 above plans 65536 choices 7\n"
    ∷ []

-- What whynot says, with the totals of `TwoShelf` and document 01: of two steps the plans 0 2 0 and 0 2 1 reach "done" with 72 in 100, 1 2 0 and 1 2 1
-- with 45; the gains of the second step are 680, 700, 350 and 400, those of the first -200 and -100. 601 in 1000 of 100 is no whole number.
unfoldable pub reasons : List Row
unfolding row why held done
reasons =
    row (why (plan 1 (next held) greater 8 10)) "greatest 8/10 choices 0\n"
    ∷ row (why (plan 2 (next (next held)) less 18 100)) "least 18/100 choices 0 2 1\n"
    ∷ row (why (plan 2 (next (next done)) equal 50 100)) "below 45/100 choices 1 2 0\nabove 72/100 choices 0 2 0\n"
    ∷ row (why (plan 2 (next (next done)) equal 601 1000)) "below 45/100 choices 1 2 0\nabove 72/100 choices 0 2 0\n"
    ∷ row (why (plan 2 (next (next done)) equal 73 100)) "below 72/100 choices 0 2 0\nabove none\n"
    ∷ row (why (plan 2 (next (next done)) equal 44 100)) "below none\nabove 45/100 choices 1 2 0\n"
    ∷ row (why (earns 2 2 2 greater (pos 7) 1)) "greatest 700/100 choices 0 2 1\n"
    ∷ row (why (earns 2 1 1 less (negsuc 1) 1)) "least -200/100 choices 0 2 0\n"
    ∷ row (why (earns 2 2 2 equal (pos 6) 1)) "below 400/100 choices 1 2 1\nabove 680/100 choices 0 2 0\n"
    ∷ row (why (earns 2 1 1 equal (negsuc 149) 100)) "below -200/100 choices 0 2 0\nabove -100/100 choices 1 2 0\n"
    ∷ row (why never) "no reason\n"
    ∷ row (why (neg done)) "yes\n"
    ∷ row (why (plan 2 (next (next done)) equal 45 100)) "yes 45/100 at plans 3 choices 1 2 0\n"
    ∷ []

pub reason_lines : map (λ r. r.line) reasons ≡ map (λ r. text r.printed) reasons
unfolding reasons text decimal decimal_in signed_decimal plain_line lamp_word yes_plan_line bounds_plans verdict_line reached_line reason_text whynot_says two_shelf is_empty all any find keep product join count_from flat_map no_action true_of mask prop_in enabled_actions deadlocked enabled stored outcomes plans choices paths weight sum total one_if gain_between sat meets compared lamp related leads is_equal bound_of goal shown leader verdict foremost standing reason_for reason
reason_lines = refl

pub printed_lines : map (λ r. r.line) table ≡ map (λ r. text r.printed) table
unfolding table text decimal decimal_in signed_decimal refused_line plain_line lamp_word optional_word no_plans_line yes_plan_line bounds_plans verdict_line two_shelf is_empty all any find keep product join count_from flat_map no_action true_of mask prop_in enabled_actions deadlocked enabled stored outcomes plans choices paths weight sum total one_if gain_between sat meets compared lamp related leads is_equal bound_of goal shown leader verdict
printed_lines = refl
