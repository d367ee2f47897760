-- The stack of choices: what stands below is kept, plans are written one behind the other, and a candidate that wins is moved down over
-- the best before it.
use Prim.Native.Nat.{ℕ, ◌+◌, ◌-◌, ◌≤◌, ◌<◌}
use native.Mathlib.Omega.{arith}
use native.Mathlib.Numerals.{add-one}
use mathlib.Core.Path.{◌≡◌, sym, ap, ap₂, ◌∙◌}
use mathlib.Core.List.{List, [], ◌∷◌, ◌++◌, append-nil, append_assoc}
use lib.ListN.{length, take, drop, set, length-append, length-take}
use lib.Seq.{length-take-le, take-take, take_at, drop_at, take-add, take-suc-set}
use Rattle.best_plan.specs.promises.Buffers.{Wrote}

pub wrote_none : (at : ℕ) (l : List ℕ) → Wrote [] at l l at
wrote_none at l = record { wrote = sym (append-nil (take at l)); next = omega arith }

pub wrote_choice : (x at : ℕ) (l : List ℕ) → at < length l → Wrote (x ∷ []) at l (set l at x) (at + 1)
wrote_choice x at l h = record { wrote = ap (λ n. take n (set l at x)) (add-one at) ∙ take-suc-set l at x h; next = omega arith }

-- What is written ends inside the buffer.
pub wrote_inside : {x c0 c1 : List ℕ} {p e : ℕ} → p ≤ length c0 → Wrote x p c0 c1 e → e ≤ length c1
wrote_inside {x} {c0} {c1} {p} {e} h w =
    omega (arith, w.next, ap length w.wrote, length-append (take p c0) x, length-take-le p c0 h, length-take e c1)

module _ {x y c0 c1 c2 : List ℕ} {p e f : ℕ} (first : Wrote x p c0 c1 e) (second : Wrote y e c1 c2 f) where
  -- One behind the other.
  pub wrote_both : Wrote (x ++ y) p c0 c2 f
  wrote_both =
      record {
        wrote = second.wrote ∙ ap (λ l. l ++ y) first.wrote ∙ append_assoc (take p c0) x y;
        next = omega (arith, first.next, second.next, length-append x y);
      }

  module _ (h : p ≤ length c0) where
    below_kept : take e c2 ≡ take e c1
    below_kept =
        sym (take-take e f c2 (omega (arith, second.next)))
        ∙ ap (take e) second.wrote
        ∙ take_at (take e c1) y e (length-take-le e c1 (wrote_inside h first))

    -- The second stands behind the first, which is as it was.
    pub wrote_first : Wrote x p c0 c2 e
    wrote_first = record { wrote = below_kept ∙ first.wrote; next = first.next }

    -- The second moved down over the first.
    pub wrote_over : (c3 : List ℕ) → take (p + (f - e)) c3 ≡ take p c2 ++ take (f - e) (drop e c2) → Wrote y p c0 c3 (p + (f - e))
    wrote_over c3 g =
        let n : length (take e c1) ≡ e = length-take-le e c1 (wrote_inside h first) in
        let l : p ≤ e = omega (arith, first.next) in
        let o : e + (f - e) ≡ f = omega (arith, second.next) in
        let bottom : take p c2 ≡ take p c0 =
        sym (take-take p e c2 l) ∙ ap (take p) wrote_first.wrote ∙ take_at (take p c0) x p (length-take-le p c0 h) in
        let top : take (f - e) (drop e c2) ≡ y =
        sym (drop_at (take e c2) (take (f - e) (drop e c2)) e (ap length below_kept ∙ n))
        ∙ ap (drop e) (sym (take-add e (f - e) c2) ∙ ap (λ i. take i c2) o ∙ second.wrote)
        ∙ drop_at (take e c1) y e n in
        record { wrote = g ∙ ap₂ ◌++◌ bottom top; next = omega (arith, second.next) }
