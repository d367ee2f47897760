-- `keep`: a candidate that wins is moved down, and one that does not is left; the first stands where it belongs.
use Prim.Native.Nat.{ℕ, ◌+◌, ◌-◌, ◌≤◌}
use native.Mathlib.Omega.{arith}
use mathlib.Core.Path.{◌≡◌, refl, sym, ap, subst, ◌∙◌}
use mathlib.Core.Bool.{Bool, true, false, not, false≢true}
use mathlib.Core.List.{List, ◌++◌}
use lib.ListN.{length, take, drop, length-append, length-take, length-drop}
use lib.Seq.{paste}
use Rattle.std.specs.Prelude.{Option, None, Some}
use Rattle.std.proofs.Common.{take-add, take_at}
use Rattle.logic.specs.promises.Orders.{order}
use Rattle.best_plan.specs.declared.Walked.{Walked}
use Rattle.best_plan.specs.promises.Buffers.{Keeps, wins, end_of}
use Rattle.best_plan.proofs.keep.Goals as goal

moved_down : (c : List ℕ) (at from n : ℕ) → at ≤ length c → from + n ≤ length c → take (at + n) (paste c at (drop from c) n) ≡ take at c ++ take n (drop from c)
moved_down c at from n h k =
    take_at (take at c ++ take n (drop from c)) _ (at + n) (simp (length-append, length-take, length-drop) (omega arith))

module _ {best : Option Walked} {w : Walked} {at : ℕ} {least : Bool} {before : List ℕ} where
  keeps_first : best ≡ None → at ≤ w.end → Keeps best w at least before before w
  unfolding wins
  keeps_first e h =
      let f : ℕ → Walked = λ n. record { value = w.value; end = n } in
      let n : w.end ≡ at + (w.end - at) = omega arith in
      subst (λ b. Keeps b w at least before before w) (sym e)
      (record { taken = λ _. (ap f n, take-add at (w.end - at) before); left = λ g. absurd (false≢true (sym g)) })

  keeps_won : {b : Walked} {after : List ℕ} → best ≡ Some b → not (order least w.value b.value) ≡ true
      → take (at + (w.end - b.end)) after ≡ take at before ++ take (w.end - b.end) (drop b.end before)
      → Keeps best w at least before after (record { value = w.value; end = at + (w.end - b.end) })
  unfolding wins
  keeps_won {b} {after} e g t =
      subst (λ o. Keeps o w at least before after (record { value = w.value; end = at + (w.end - b.end) })) (sym e)
      (record { taken = λ _. (refl, t); left = λ f. absurd (false≢true (sym f ∙ g)) })

  keeps_lost : {b : Walked} → best ≡ Some b → not (order least w.value b.value) ≡ false → Keeps best w at least before before b
  unfolding wins
  keeps_lost {b} e g =
      subst (λ o. Keeps o w at least before before b) (sym e) (record { taken = λ f. absurd (false≢true (sym g ∙ f)); left = λ _. (refl, refl) })

pub returns-in_default : goal.returns-in_default
returns-in_default c =
    let A = c.args in
    keeps_first c.in_default.is (subst (λ o. end_of A.at o ≤ A.w.end) c.in_default.is c.requires.1)

pub returns-then-exceeds : goal.returns-then-exceeds
returns-then-exceeds c =
    let A = c.args in
    let b = c.in-Some.b in
    let behind : b.end ≤ A.w.end = subst (λ o. end_of A.at o ≤ A.w.end) c.in-Some.is c.requires.1 in
    let from : A.at ≤ b.end = subst (λ o. A.at ≤ end_of A.at o) c.in-Some.is c.requires.0 in
    keeps_won c.in-Some.is (sym c.exceeds.ensures ∙ c.if-exceeds.true)
    (ap (take (A.at + (A.w.end - b.end))) c.copy_within.ensures.after ∙ moved_down A.choices.now A.at b.end (A.w.end - b.end) (omega (arith, c.requires.2)) (omega (arith, c.requires.2)))

pub returns : goal.returns
returns c = keeps_lost c.in-Some.is (sym c.exceeds.ensures ∙ c.if-exceeds.false)
