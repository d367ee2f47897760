-- The text of each case.
-- How many choices there are, by the case.
use Prim.Native.Nat.{ℕ}
use native.Mathlib.Omega.{arith}
use mathlib.Core.Path.{◌≡◌, sym, subst}
use lib.Seq.{length-take-le}
use Rattle.verdict_line.specs.Text.{text}
use Rattle.verdict_line.proofs.PutInTurn.{put_put}
use Rattle.explaining.specs.promises.Said.{explained_said, front_size, back_size, Few}
use Rattle.reasons.specs.declared.Explanation.{Explanation}
use mir.Syntax.{w64}
use mir.ValLaws.{to_z-of_z}
use Rattle.explaining.proofs.explained_text.Goals as goal

few_as : {e : Explanation} {i j : ℕ} (x : Explanation) → Few e i j → e ≡ x → Few x i j
few_as {i = i} {j} x f same = subst (λ e. Few e i j) same f

pub plain_line-requires : goal.plain_line-requires
plain_line-requires c = omega (arith, c.requires.0)

pub slice_bounds-yes_plan_line-end : goal.slice_bounds-yes_plan_line-end
unfolding front_size
slice_bounds-yes_plan_line-end c = sym (length-take-le _ _ (few_as _ c.requires.1 c.in-Shown.is).front_inside)

pub yes_plan_line-requires : goal.yes_plan_line-requires
unfolding front_size
yes_plan_line-requires c = let S = c in
    let f = few_as _ S.requires.1 c.in-Shown.is in
    (omega (arith, S.requires.0), omega (arith, f.front_few, length-take-le c.in-Shown.x.size S.args.choices.now f.front_inside))

pub no_reason_text-requires : goal.no_reason_text-requires
no_reason_text-requires c = omega (arith, c.requires.0)

pub put_side-requires : goal.put_side-requires
unfolding front_size
put_side-requires c = let S = c in
    let f = few_as _ S.requires.1 c.in-Greatest.is in
    (omega (arith, S.requires.0), f.front_few, f.front_inside)

pub put_side-requires-in-Least : goal.put_side-requires-in-Least
unfolding front_size
put_side-requires-in-Least c = let S = c in
    let f = few_as _ S.requires.1 c.in-Least.is in
    (omega (arith, S.requires.0), f.front_few, f.front_inside)

pub put_side-next-requires : goal.put_side-next-requires
unfolding front_size
put_side-next-requires c = let S = c in
    let f = few_as _ S.requires.1 c.in-Nearest.is in
    (omega (arith, S.requires.0), f.front_few, f.front_inside)

pub put_side-requires-in-Nearest : goal.put_side-requires-in-Nearest
unfolding back_size
put_side-requires-in-Nearest c = let S = c in
    let f = few_as _ S.requires.1 c.in-Nearest.is in
    (omega (arith, S.requires.0, c.put_side-next.ensures.range), f.back_few, f.back_inside)

pub returns-in-Yes : goal.returns-in-Yes
unfolding explained_said
returns-in-Yes c = rw c.in-Yes.is c.plain_line.ensures

pub returns-in-Shown : goal.returns-in-Shown
unfolding explained_said
returns-in-Shown c = let line = rw (to_z-of_z w64 c.in-Shown.x.total (record { sfits = c.struct_told-1.given.0.1 })) at c.yes_plan_line.ensures in
    rw c.in-Shown.is line

pub returns-in-NoReason : goal.returns-in-NoReason
unfolding explained_said
returns-in-NoReason c = rw c.in-NoReason.is c.no_reason_text.ensures

pub returns-in-Greatest : goal.returns-in-Greatest
unfolding explained_said text
returns-in-Greatest c = rw c.in-Greatest.is c.put_side.ensures.effect

pub returns-in-Least : goal.returns-in-Least
unfolding explained_said text
returns-in-Least c = rw c.in-Least.is c.put_side-in-Least.ensures.effect

pub returns-in-Nearest : goal.returns-in-Nearest
unfolding explained_said text
returns-in-Nearest c = let lower = c.put_side-next.ensures in
    let upper = c.put_side-in-Nearest.ensures in
    let long = c.requires.0 in
    rw c.in-Nearest.is (put_put lower.effect upper.effect (omega (arith, lower.range, upper.range, long)))
