-- `answer` is what is claimed of it (`Claims.Whynot`): its contract's own value, which is the text printed (verdict_line/proofs/LineIsChain, WhyNo).
use Prim.Native.Nat.{ℕ}
use native.Mathlib.Omega.{arith}
use mathlib.Core.Path.{refl, sym, subst}
use mathlib.Core.List.{List}
use lib.ListN.{length}
use Rattle.blocks.specs.Splice.{splice}
use Rattle.verdict_line.specs.Text.{Put}
use Rattle.verdict_line.specs.Reasons.{whynot_says}
use Rattle.verdict_line.specs.promises.Chain.{answer_text}
use Rattle.verdict_line.proofs.LineIsChain.{explained_is}
use Rattle.verdict_line.proofs.WhyNo.{same_text, why}
use Rattle.explaining.proofs.Claims.Whynot.{WhynotPrinted}

pub whynot_printed : WhynotPrinted
whynot_printed =
    record {
      asks_nothing = λ κ input found. tt;
      answers = λ κ input found.
          let line : List ℕ = answer_text whynot_says input.now in
          (record { ref_ptr = (0, 0); ghost_name = 0; now = splice found.now 0 line }, length line, record { wrote = refl; next = omega arith });
      prints = λ κ input found left r p. subst (λ l. Put l found.now left.now 0 r) (sym (explained_is input.now)) (p tt);
      as_verdict = λ b h. same_text b h;
      on_no = λ b x d. why b x d;
    }
