-- `spread::fill`: what stands before and behind the filled part stays.
use Prim.Native.Nat.{ℕ, ◌+◌, ◌-◌}
use native.Mathlib.Omega.{arith}
use mathlib.Core.Path.{◌≡◌, sym, ap, ap₂, ◌∙◌}
use mathlib.Core.List.{List, ◌++◌}
use lib.ListN.{length, take, drop, replicate, length-replicate}
use lib.Seq.{drop-drop}
use borrow.Rule.Slice.PartMut.{put_mid, mid_of, mid_len}
use Rattle.blocks.specs.Splice.{splice}
use Rattle.exact_plan.proofs.spread.fill.Goals as goal

put_back : (s : List ℕ) (at n x k : ℕ) (ys : List ℕ) → k ≡ n → ys ≡ replicate n x → put_mid at k s ys ≡ splice s at (replicate n x)
unfolding splice
put_back s at n x k ys e f =
    ap₂ (λ y r. take at s ++ (y ++ r)) f (ap (λ j. drop j (drop at s)) e ∙ drop-drop n at s ∙ ap (λ j. drop (at + j) s) (sym (length-replicate {A = ℕ} n x)))

pub returns : goal.returns
returns c =
    let A = c.args in
    let k : A.at + A.n - A.at ≡ A.n = omega arith in
    let whole : length (mid_of A.at (A.at + A.n - A.at) A.buf.now) ≡ A.n = mid_len A.at (A.at + A.n) A.buf.now c.requires ∙ k in
    put_back A.buf.now A.at A.n A.x (A.at + A.n - A.at) c.fill.new.self k (c.fill.ensures.after (λ y h. h) ∙ ap (λ j. replicate j A.x) whole)
