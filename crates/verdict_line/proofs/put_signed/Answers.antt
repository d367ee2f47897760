-- Below 0 the text, a minus, and one more than how far it is below -1; from 0 on the text and the number itself.
use Prim.Native.Nat.{◌^◌, ◌≤◌, ◌<◌}
use native.Mathlib.Omega.{arith}
use mathlib.Core.Path.{◌≡◌, refl, sym, ap, subst, ◌∙◌}
use mathlib.Core.Bool.{false, false≢true}
use mathlib.Core.List.{◌++◌}
use lib.Dec.{T}
use lib.IntN.{ℤ, pos, negsuc, nat_abs}
use lib.ListN.{length}
use lib.Signed.{mag, lt_z, non_neg}
use mir.Syntax.{w64}
use mir.Val.{to_z, of_z, Fits}
use mir.ValLaws.{to_z-of_z}
use Rattle.verdict_line.specs.Text.{text, decimal, signed_decimal, Put}
use Rattle.verdict_line.proofs.PutInTurn.{put_put}
use Rattle.verdict_line.proofs.put_signed.Goals as goal

natural : (z : ℤ) → lt_z z (pos 0) ≡ false → mag z < 2 ^ 63 → T (non_neg z) × Fits w64 (nat_abs z) × (decimal (nat_abs z) ≡ signed_decimal z)
unfolding signed_decimal
natural (pos x) e h = (tt, record { fits = omega arith }, refl)
natural (negsuc x) e h = absurd (false≢true (sym e))

pub returns-then-z-lt0 : goal.returns-then-z-lt0
unfolding signed_decimal text
returns-then-z-lt0 c =
    let same : to_z w64 (of_z w64 c.args.z) ≡ c.args.z = to_z-of_z w64 c.args.z c.ranges.z in
    let S = c in
    let first = c.put_text-next in
    let far = c.below_minus_one in
    let rest = c.put_decimal in
    let e : S.args.z ≡ negsuc far.result = sym same ∙ far.ensures.value in
    let room : rest.result ≤ length S.args.out.now = omega (arith, S.requires, first.ensures.next, rest.ensures.range) in record { effect = subst (λ z. Put (S.args.text.now ++ signed_decimal z) S.args.out.now rest.new.out S.args.at rest.result) (sym e) (put_put first.ensures rest.ensures.effect room); range = omega (arith, first.ensures.next, rest.ensures.range) }

pub overflow_cast-z : goal.overflow_cast-z
overflow_cast-z c =
    let same : to_z w64 (of_z w64 c.args.z) ≡ c.args.z = to_z-of_z w64 c.args.z c.ranges.z in
    let here : lt_z (to_z w64 (of_z w64 c.args.z)) (pos 0) ≡ false
    → T (non_neg c.args.z) × Fits w64 (nat_abs c.args.z) × (decimal (nat_abs c.args.z) ≡ signed_decimal c.args.z) = λ e. natural c.args.z (ap (λ x. lt_z x (pos 0)) (sym same) ∙ e) c.ranges.z.sfits in
    let S = c in let w = here c.if-z-lt0.false in rw same (w.0, w.1)

pub returns : goal.returns
returns c =
    let same : to_z w64 (of_z w64 c.args.z) ≡ c.args.z = to_z-of_z w64 c.args.z c.ranges.z in
    let here : lt_z (to_z w64 (of_z w64 c.args.z)) (pos 0) ≡ false
    → T (non_neg c.args.z) × Fits w64 (nat_abs c.args.z) × (decimal (nat_abs c.args.z) ≡ signed_decimal c.args.z) = λ e. natural c.args.z (ap (λ x. lt_z x (pos 0)) (sym same) ∙ e) c.ranges.z.sfits in
    let S = c in
    let put = c.put_decimal-2 in
    let e : decimal (nat_abs (to_z w64 (of_z w64 S.args.z))) ≡ signed_decimal S.args.z = ap (λ z. decimal (nat_abs z)) same ∙ (here c.if-z-lt0.false).2 in record { effect = subst (λ x. Put (S.args.text.now ++ x) S.args.out.now put.new.out S.args.at put.result) e put.ensures.effect; range = omega (arith, put.ensures.range) }
