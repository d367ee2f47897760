-- The text of what the code says of a question is the definition's: the choices that it says stand at the front of the two buffers.
use Prim.Native.Nat.{ℕ, ◌+◌, ◌^◌, ◌≤◌}
use native.Mathlib.Omega.{arith}
use mathlib.Core.Path.{◌≡◌, refl, sym, ap, ap₂, subst, ◌∙◌}
use mathlib.Core.List.{List, ◌++◌}
use mathlib.Core.Option.{Option, none, some}
use lib.ListN.{length, take, drop, length-append}
use lib.Seq.{take-append_seam}
use Rattle.logic.specs.Model.{Model}
use Rattle.logic.specs.Verdict.{Verdict, no, yes, yes_plan, verdict}
use Rattle.logic.specs.Reason.{Reached, Reason, greatest, least, nearest, no_reason, reason}
use Rattle.blocks.specs.Splice.{splice}
use Rattle.questions.specs.Layout.{Question}
use Rattle.lamp.proofs.Coded.{lamp_said}
use Rattle.verdict_line.specs.Text.{text}
use Rattle.verdict_line.specs.Line.{yes_plan_line, verdict_line}
use Rattle.verdict_line.specs.Reasons.{reached_line, reason_text, whynot_says}
use Rattle.reasons.specs.declared.Explanation.{Explanation}
use Rattle.reasons.specs.promises.Told.{side_code, side_choices, reason_code, front, back, explained_code, front_by, back_by, Tells}
use Rattle.explaining.specs.promises.Said.{side_said, side_size, explained_said, front_size, back_size, Few}

-- ---- what stands at the front of a buffer

module _ (xs zs : List ℕ) {cs : List ℕ} (e : cs ≡ splice zs 0 xs) where
  front_is : take (length xs) cs ≡ xs
  unfolding splice
  front_is = ap (take (length xs)) e ∙ take-append_seam xs (drop (0 + length xs) zs)

  front_fits : length xs ≤ length cs
  unfolding splice
  front_fits = omega (arith, ap length e, length-append xs (drop (0 + length xs) zs))

side_is : (o : Option Reached) (zs : List ℕ) {cs : List ℕ} → cs ≡ splice zs 0 (side_choices o) → side_said (side_code o) cs ≡ o
unfolding side_said side_code side_choices
side_is none zs e = refl
side_is (some x) zs e = ap (λ cs. some (record { total = x.total; whole = x.whole; choices = cs })) (front_is x.choices zs e)

side_length : (o : Option Reached) → side_size (side_code o) ≡ length (side_choices o)
unfolding side_size side_code side_choices
side_length none = refl
side_length (some x) = refl

-- ---- how many choices there are

front_length : (e : Reason) → front_size (reason_code e) ≡ length (front e)
unfolding front_size reason_code front
front_length (greatest o) = side_length o
front_length (least o) = side_length o
front_length (nearest o u) = side_length o
front_length no_reason = refl

back_length : (e : Reason) → back_size (reason_code e) ≡ length (back e)
unfolding back_size reason_code back
back_length (greatest o) = refl
back_length (least o) = refl
back_length (nearest o u) = side_length u
back_length no_reason = refl

front_sized : (D : ℕ) (v : Verdict) (e : Reason) → front_size (explained_code D v e) ≡ length (front_by v e)
unfolding front_size explained_code front_by
front_sized D (no x) e = front_length e
front_sized D yes e = refl
front_sized D (yes_plan x) e = refl

back_sized : (D : ℕ) (v : Verdict) (e : Reason) → back_size (explained_code D v e) ≡ length (back_by v e)
unfolding back_size explained_code back_by
back_sized D (no x) e = back_length e
back_sized D yes e = refl
back_sized D (yes_plan x) e = refl

-- ---- the text

module _ (zs ys : List ℕ) {cs ds : List ℕ} where
  reason_said : (e : Reason) → cs ≡ splice zs 0 (front e) → ds ≡ splice ys 0 (back e) → explained_said (reason_code e) cs ds ≡ reason_text e
  unfolding explained_said reason_code reason_text front back
  reason_said (greatest o) f g = ap (reached_line (text "greatest")) (side_is o zs f)
  reason_said (least o) f g = ap (reached_line (text "least")) (side_is o zs f)
  reason_said (nearest o u) f g = ap₂ (λ x y. reached_line (text "below") x ++ reached_line (text "above") y) (side_is o zs f) (side_is u ys g)
  reason_said no_reason f g = refl

  said_is : (m : Model) (q : Question) (v : Verdict) (e : Reason) → e ≡ reason m q.start q.root → cs ≡ splice zs 0 (front_by v e)
      → ds ≡ splice ys 0 (back_by v e) → explained_said (explained_code m.denominator v e) cs ds ≡ whynot_says m q v
  unfolding explained_said explained_code whynot_says verdict_line front_by back_by
  said_is m q (no x) e i f g = reason_said e f g ∙ ap reason_text i
  said_is m q yes e i f g = refl
  said_is m q (yes_plan x) e i f g = ap₂ (λ l cs. yes_plan_line x.total (m.denominator ^ x.steps) l x.count cs) (lamp_said x.lamp) (front_is x.choices zs f)

-- ---- what is told

module _ (zs ys : List ℕ) {cs ds : List ℕ} where
  -- Few, since the buffers are no longer than their types say.
  pub few : {D : ℕ} {v : Verdict} {e : Reason} {r : Explanation} → Tells D v e r zs cs ys ds → length cs ≡ 1365 → length ds ≡ 1365 → Few r (length cs) (length ds)
  few {D} {v} {e} T n k =
      subst (λ r. Few r (length cs) (length ds)) (sym T.said)
      (record {
        front_few = omega (arith, front_sized D v e, front_fits (front_by v e) zs T.beside, n);
        front_inside = omega (arith, front_sized D v e, front_fits (front_by v e) zs T.beside);
        back_few = omega (arith, back_sized D v e, front_fits (back_by v e) ys T.behind, k);
        back_inside = omega (arith, back_sized D v e, front_fits (back_by v e) ys T.behind);
      })

  -- The text of what is told.
  pub told_text : (m : Model) (q : Question) {r : Explanation} → Tells m.denominator (verdict m q.start q.root) (reason m q.start q.root) r zs cs ys ds
      → explained_said r cs ds ≡ whynot_says m q (verdict m q.start q.root)
  told_text m q T = ap (λ r. explained_said r cs ds) T.said ∙ said_is zs ys m q (verdict m q.start q.root) (reason m q.start q.root) refl T.beside T.behind
