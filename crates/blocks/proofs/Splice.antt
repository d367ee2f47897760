-- Laws of `splice`: what is written, what stays beside it, and two pieces written side by side.
use Prim.Native.Nat.{ℕ, ◌+◌, ◌-◌, ◌≤◌, ◌<◌}
use native.Mathlib.Nat.{add-zero}
use native.Mathlib.Numerals.{add-one}
use native.Mathlib.Omega.{arith}
use mathlib.Core.Path.{◌≡◌, sym, ap, ap₂, ◌∙◌}
use mathlib.Core.List.{List, [], ◌∷◌, ◌++◌, append_assoc}
use lib.ListN.{length, take, drop, get_or, set, length-append, length-drop, length-take, take-append-drop}
use lib.Seq.{take_at, take-take, drop_at, take-append-le, drop-append-add, drop-drop, length-take-le, set_split, get_or-drop, get_or-take}
use Rattle.blocks.specs.Splice.{splice}

pub splice_none : (l : List ℕ) (p : ℕ) → splice l p [] ≡ l
unfolding splice
splice_none l p = rw add-zero (take-append-drop p l)

pub splice_one : (l : List ℕ) (p a : ℕ) → p < length l → set l p a ≡ splice l p (a ∷ [])
unfolding splice
splice_one l p a h = rw add-one (set_split l p a h)

pub splice_length : (l : List ℕ) (p : ℕ) (x : List ℕ) → p + length x ≤ length l → length (splice l p x) ≡ length l
unfolding splice
splice_length l p x h = simp (length-append, length-drop, length-take) (omega arith)

-- What stands before the place, and what stands after the piece.
pub take_splice : (l : List ℕ) (p : ℕ) (x : List ℕ) (n : ℕ) → n ≤ p → p ≤ length l → take n (splice l p x) ≡ take n l
unfolding splice
take_splice l p x n h k =
    let e : length (take p l) ≡ p = length-take-le p l k in
    take-append-le n (take p l) (x ++ drop (p + length x) l) (omega arith) ∙ take-take n p l h

pub drop_splice : (l : List ℕ) (p : ℕ) (x : List ℕ) (n : ℕ) → p + length x ≤ n → p ≤ length l → drop n (splice l p x) ≡ drop n l
unfolding splice
drop_splice l p x n h k =
    let D : List ℕ = drop (p + length x) l in
    let e : length (take p l ++ x) ≡ p + length x = length-append (take p l) x ∙ ap (λ i. i + length x) (length-take-le p l k) in
    let j : n ≡ length (take p l ++ x) + (n - (p + length x)) = omega arith in
    let i : p + length x + (n - (p + length x)) ≡ n = omega arith in
    ap₂ drop j (sym (append_assoc (take p l) x D))
    ∙ drop-append-add (take p l ++ x) D (n - (p + length x))
    ∙ drop-drop (n - (p + length x)) (p + length x) l
    ∙ ap (λ i. drop i l) i

pub take_written : (l : List ℕ) (p : ℕ) (x : List ℕ) → p ≤ length l → take (p + length x) (splice l p x) ≡ take p l ++ x
unfolding splice
take_written l p x k =
    ap (take (p + length x)) (sym (append_assoc (take p l) x (drop (p + length x) l)))
    ∙ take_at (take p l ++ x) (drop (p + length x) l) (p + length x) (length-append (take p l) x ∙ ap (λ i. i + length x) (length-take-le p l k))

pub get_or_before : (l : List ℕ) (p : ℕ) (x : List ℕ) (i : ℕ) → i < p → p ≤ length l → get_or (splice l p x) i 0 ≡ get_or l i 0
get_or_before l p x i h k =
    sym (get_or-take p (splice l p x) i 0 h) ∙ ap (λ r. get_or r i 0) (take_splice l p x p (omega arith) k) ∙ get_or-take p l i 0 h

pub get_d_after : (l : List ℕ) (p : ℕ) (x : List ℕ) (i : ℕ) → p + length x ≤ i → p ≤ length l → get_or (splice l p x) i 0 ≡ get_or l i 0
get_d_after l p x i h k =
    let j : i + 0 ≡ i = omega arith in
    let at : (r : List ℕ) → get_or (drop i r) 0 0 ≡ get_or r i 0 = λ r. get_or-drop i r 0 0 ∙ ap (λ z. get_or r z 0) j in
    sym (at (splice l p x)) ∙ ap (λ r. get_or r 0 0) (drop_splice l p x i h k) ∙ at l

-- A piece written behind another, and one written in front.
pub splice_behind : (l : List ℕ) (p : ℕ) (x y : List ℕ) → p + length x ≤ length l → splice (splice l p x) (p + length x) y ≡ splice l p (x ++ y)
unfolding splice
splice_behind l p x y h =
    let D : List ℕ = drop (p + (length (x ++ y))) l in
    let j : p + length x + length y ≡ p + length (x ++ y) = omega (arith, length-append x y) in
    ap₂ (λ u v. u ++ (y ++ v)) (take_written l p x (omega arith)) (drop_splice l p x (p + length x + length y) (omega arith) (omega arith) ∙ ap (λ i. drop i l) j)
    ∙ append_assoc (take p l) x (y ++ D)
    ∙ ap (λ u. take p l ++ u) (sym (append_assoc x y D))

pub splice_front : (l : List ℕ) (p : ℕ) (x y : List ℕ) → p + length x ≤ length l → splice (splice l (p + length x) y) p x ≡ splice l p (x ++ y)
unfolding splice
splice_front l p x y h =
    let q : ℕ = p + length x in
    let D : List ℕ = drop (p + length (x ++ y)) l in
    let e : length (take q l) ≡ q = length-take-le q l h in
    let j : q + length y ≡ p + length (x ++ y) = omega (arith, length-append x y) in
    ap₂ (λ u v. u ++ (x ++ v)) (take_splice l q y p (omega arith) h)
    (drop_at (take q l) (y ++ drop (q + length y) l) q e ∙ ap (λ i. y ++ drop i l) j)
    ∙ ap (λ u. take p l ++ u) (sym (append_assoc x y D))

pub splice_set : (l : List ℕ) (p : ℕ) (x : List ℕ) (a : ℕ) → p + length x < length l → set (splice l p x) (p + length x) a ≡ splice l p (x ++ (a ∷ []))
splice_set l p x a h =
    splice_one (splice l p x) (p + length x) a (omega (arith, splice_length l p x (omega arith)))
    ∙ splice_behind l p x (a ∷ []) (omega arith)
