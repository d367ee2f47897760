-- `answer` is what is claimed of it (`Claims.Answer`): its contract's own value, which is the line printed (verdict_line/proofs/LineIsChain).
use Prim.Native.Nat.{ℕ}
use native.Mathlib.Omega.{arith}
use mathlib.Core.Path.{refl, sym, subst}
use mathlib.Core.List.{List}
use lib.ListN.{length}
use Rattle.blocks.specs.Splice.{splice}
use Rattle.verdict_line.specs.Text.{Put}
use Rattle.verdict_line.specs.Line.{verdict_says}
use Rattle.verdict_line.specs.promises.Chain.{answer_text}
use Rattle.verdict_line.proofs.LineIsChain.{printed_is}
use Rattle.printing.proofs.Claims.Answer.{AnswerPrinted}

pub answer_printed : AnswerPrinted
answer_printed =
    record {
      asks_nothing = λ κ input found. tt;
      answers = λ κ input found.
          let line : List ℕ = answer_text verdict_says input.now in
          (record { ref_ptr = (0, 0); ghost_name = 0; now = splice found.now 0 line }, length line, record { wrote = refl; next = omega arith });
      prints = λ κ input found left r p. subst (λ l. Put l found.now left.now 0 r) (sym (printed_is input.now)) (p tt);
    }
