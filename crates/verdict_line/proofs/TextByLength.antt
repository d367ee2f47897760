-- The text by the input's length: refused, or that of the model and the question in it.
use Prim.Native.Nat.{ℕ}
use mathlib.Core.Path.{◌≡◌, refl, sym, ap, ap₂, ◌∙◌}
use mathlib.Core.Bool.{Bool, true, false}
use mathlib.Core.List.{List}
use lib.ListN.{length}
use Rattle.logic.specs.Checked.{guard, ◌>>◌}
use Rattle.blocks.specs.Bytes.{Bytes, within}
use Rattle.verdict_line.specs.Line.{Says, model_part, question_part, refused_line}
use Rattle.verdict_line.specs.promises.Chain.{loading_text, judged_text, line_of, answer_text}

module _ (says : Says) (b : Bytes) where
  -- The text by the test of the length.
  abbrev split_text : Bool → List ℕ
  split_text t = line_of (guard 1 t >> loading_text says (model_part b) (question_part b))

  split : answer_text says b ≡ split_text (within 512 6656 (length b))
  unfolding answer_text judged_text
  split = refl

  pub no_parts : within 512 6656 (length b) ≡ false → refused_line 1 ≡ answer_text says b
  unfolding line_of
  no_parts h = sym (split ∙ ap split_text h)

  pub both_parts : within 512 6656 (length b) ≡ true → {m q : Bytes} → m ≡ model_part b → q ≡ question_part b
      → line_of (loading_text says m q) ≡ answer_text says b
  both_parts h i j = ap₂ (λ m q. line_of (loading_text says m q)) i j ∙ sym (split ∙ ap split_text h)
