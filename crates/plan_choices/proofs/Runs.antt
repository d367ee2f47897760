-- Runs in a buffer: what two runs write, one behind the other, is what they write together, and each turn of the loops adds a run.
use Prim.Native.Nat.{ℕ, zero, suc, ◌+◌, ◌*◌, ◌-◌, ◌≤◌, ◌<◌, min}
use native.Mathlib.Omega.{arith}
use native.Mathlib.Numerals.{add-one}
use native.Mathlib.Nat.{suc-mul, mul-le-mul_right, le_refl, min-le_left, min-eq_left}
use mathlib.Core.Path.{◌≡◌, refl, sym, ap, ap₂, subst, ◌∙◌}
use mathlib.Core.List.{List, [], ◌∷◌, ◌++◌, append-nil, append_assoc}
use lib.ListN.{length, get_or, drop, set, length-append}
use lib.Seq.{drop-drop, get_or-drop}
use Rattle.logic.specs.Lists.{count_from, tabulate}
use Rattle.logic.specs.Model.{Model, Step, outcomes}
use Rattle.logic.proofs.Tests.{tabulate_more}
use Rattle.blocks.specs.Splice.{splice}
use Rattle.blocks.proofs.Splice.{splice_none, splice_one, splice_behind}
use Rattle.logic.specs.promises.MostChoices.{most_choices}
use Rattle.plan_choices.specs.promises.Extended.{Run, each, choice_at, after_choice, extend, Placed, Ran}

-- ---- runs

-- One run more, at the end.
each_more : {A : Type 0} (f : A → List ℕ → Run) (l : List A) (x : A) (cs : List ℕ)
    → each f (l ++ (x ∷ [])) cs ≡ ((each f l cs).0 ++ (f x (each f l cs).1).0, (f x (each f l cs).1).1)
unfolding each
each_more f [] x cs = ap (λ (w : List ℕ). (w, (f x cs).1)) (append-nil (f x cs).0)
each_more f (y ∷ l) x cs =
    let z : Run = f y cs in
    ap (λ (w : Run). (z.0 ++ w.0, w.1)) (each_more f l x z.1)
    ∙ ap (λ (w : List ℕ). (w, (f x (each f l z.1).1).1)) (sym (append_assoc z.0 (each f l z.1).0 (f x (each f l z.1).1).0))

module _ (src : List ℕ) where
  pub ran_none : (cs : List ℕ) (from at : ℕ) (dst : List ℕ) → drop from src ≡ cs → Ran ([], cs) 0 src from from dst dst at at
  ran_none cs from at dst e = record { wrote = sym (splice_none dst at); next = omega arith; left = e; near = omega arith; size = omega arith }

  -- A run behind another.
  pub ran_ran : (x y z : Run) (p q : ℕ) (f0 f1 f2 a0 a1 a2 : ℕ) (d0 d1 d2 : List ℕ) → a0 + length x.0 ≤ length d0
      → Ran x p src f0 f1 d0 d1 a0 a1 → Ran y q src f1 f2 d1 d2 a1 a2 → z ≡ (x.0 ++ y.0, y.1) → Ran z (p + q) src f0 f2 d0 d2 a0 a2
  ran_ran x y z p q f0 f1 f2 a0 a1 a2 d0 d1 d2 h r t e =
      subst (λ z. Ran z (p + q) src f0 f2 d0 d2 a0 a2) (sym e)
      (record {
        wrote = t.wrote ∙ ap₂ (λ (u : List ℕ) (v : ℕ). splice u v y.0) r.wrote r.next ∙ splice_behind d0 a0 x.0 y.0 h;
        next = omega (arith, r.next, t.next, length-append x.0 y.0);
        left = t.left;
        near = omega (arith, r.near, t.near);
        size = omega (arith, r.size, t.size, length-append x.0 y.0);
      })

  pub ran_most : (x : Run) (p q : ℕ) (f0 f1 a0 a1 : ℕ) (d0 d1 : List ℕ) → p ≤ q → Ran x p src f0 f1 d0 d1 a0 a1 → Ran x q src f0 f1 d0 d1 a0 a1
  ran_most x p q f0 f1 a0 a1 d0 d1 h r =
      record { wrote = r.wrote; next = r.next; left = r.left; near = omega (arith, r.near); size = omega (arith, r.size) }

  -- A choice written.
  ran_choice : (a k from at : ℕ) (dst : List ℕ) → k ≤ 1 → at < length dst → Ran (a ∷ [], drop (from + k) src) 1 src from (from + k) dst (set dst at a) at (at + 1)
  ran_choice a k from at dst h g =
      record { wrote = splice_one dst at a g; next = omega arith; left = refl; near = omega arith; size = omega arith }

pub min_one : (d : ℕ) → min 1 d ≤ 1
min_one d = min-le_left 1 d

less_one : (d : ℕ) → d - min 1 d ≡ d - 1
less_one zero = refl
less_one (suc d) = ap (λ k. suc d - k) (min-eq_left {n = 1} {m = suc d} (omega arith))

module _ (m : Model) (τ : ℕ → ℕ → ℕ) (src : List ℕ) where
  pub extend_none : (d n s from at : ℕ) (dst : List ℕ) → n ≡ 0 → Ran (extend m τ d n s (drop from src)) (most_choices n) src from from dst dst at at
  unfolding extend most_choices
  extend_none d n s from at dst e = rw e (ran_none src (drop from src) from at dst refl)

  -- A choice, and what stands below its outcomes.
  pub extend_choice : (d n s from at a k : ℕ) (dst dst' : List ℕ) (f t : ℕ) → (n ≡ 0 → ⊥) → at < length dst
      → a ≡ choice_at (τ n s) d (drop from src) → k ≡ min 1 d
      → Ran (each (λ o. extend m τ (d - k) (n - 1) o.target) (outcomes m s a) (drop (from + k) src)) (4 * most_choices (n - 1)) src (from + k) f (set dst at a) dst' (at + 1) t
      → Ran (extend m τ d n s (drop from src)) (most_choices n) src from f dst dst' at t
  unfolding extend most_choices after_choice
  extend_choice d zero s from at a k dst dst' f t z g e h r = absurd (z refl)
  extend_choice d (suc n) s from at a k dst dst' f t z g e h r =
      let one : suc n - 1 ≡ n = omega arith in
      let less : d - k ≡ d - 1 = ap (λ k. d - k) h ∙ less_one d in
      let here : drop (from + k) src ≡ drop (min 1 d) (drop from src) = ap (λ k. drop (from + k) src) h ∙ sym (drop-drop (min 1 d) from src) in
      let y : Run = each (λ o. extend m τ (d - k) (suc n - 1) o.target) (outcomes m s a) (drop (from + k) src) in
      ran_most src _ (1 + 4 * most_choices (suc n - 1)) (1 + 4 * most_choices n) from f at t dst dst' (rw one (le_refl (1 + 4 * most_choices n)))
      (ran_ran src (a ∷ [], drop (from + k) src) y _ 1 (4 * most_choices (suc n - 1)) from (from + k) f at (at + 1) t dst (set dst at a) dst' (omega arith)
      (ran_choice src a k from at dst (omega (arith, min_one d)) g) r
      (ap₂ (λ (c : ℕ) (w : Run). (c ∷ w.0, w.1)) (sym e)
      (ap₂ (λ (c : ℕ) (cs : List ℕ). each (λ o. extend m τ (d - 1) n o.target) (outcomes m s c) cs) (sym e) (sym here)
      ∙ ap₂ (λ (i j : ℕ). each (λ o. extend m τ i j o.target) (outcomes m s a) (drop (from + k) src)) (sym less) (sym one))))

module _ (a d from : ℕ) (src : List ℕ) where
  pub choice_first : d ≡ 0 → a ≡ choice_at a d (drop from src)
  unfolding choice_at
  choice_first e = rw e refl

  pub choice_read : (v : ℕ) → (d ≡ 0 → ⊥) → v ≡ get_or src from 0 → v ≡ choice_at a d (drop from src)
  unfolding choice_at
  choice_read v z e = e ∙ go d z
    where
      go : (d : ℕ) → (d ≡ 0 → ⊥) → get_or src from 0 ≡ choice_at a d (drop from src)
      go zero z = absurd (z refl)
      go (suc d) z = let e : from ≡ from + 0 = omega arith in ap (λ i. get_or src i 0) e ∙ sym (get_or-drop from src 0 0)

-- With one step less.
pub placed_less : {m places : List ℕ} {n : ℕ} → Placed m places n → Placed m places (n - 1)
placed_less p = record { few = omega (arith, p.few); inside = λ k s l h. p.inside k s (omega arith) h }

-- ---- the loop over the outcomes

-- The outcomes are given by g, in their order.
module _ (m : Model) (τ : ℕ → ℕ → ℕ) (g : ℕ → Step) (d n : ℕ) (src : List ℕ) where
  -- The runs below the first i outcomes.
  abbrev pub runs : ℕ → List ℕ → Run
  runs i cs = each (λ o. extend m τ d n o.target) (tabulate i g) cs

  pub runs_none : (from at : ℕ) (dst : List ℕ) → Ran (runs 0 (drop from src)) (0 * most_choices n) src from from dst dst at at
  unfolding each tabulate count_from
  runs_none from at dst = ran_most src ([], drop from src) 0 (0 * most_choices n) from from at at dst dst (omega arith) (ran_none src (drop from src) from at dst refl)

  pub runs_more : (i t f0 f1 f2 a0 a1 a2 : ℕ) (d0 d1 d2 : List ℕ) → t ≡ (g i).target → a0 + i * most_choices n ≤ length d0
      → Ran (runs i (drop f0 src)) (i * most_choices n) src f0 f1 d0 d1 a0 a1 → Ran (extend m τ d n t (drop f1 src)) (most_choices n) src f1 f2 d1 d2 a1 a2
      → Ran (runs (i + 1) (drop f0 src)) ((i + 1) * most_choices n) src f0 f2 d0 d2 a0 a2
  runs_more i t f0 f1 f2 a0 a1 a2 d0 d1 d2 e h r q =
      let w : Step → List ℕ → Run = λ o. extend m τ d n o.target in
      rw (add-one i)
      (ran_most src (runs (suc i) (drop f0 src)) (i * most_choices n + most_choices n) (suc i * most_choices n) f0 f2 a0 a2 d0 d2 (omega (arith, suc-mul i (most_choices n)))
      (ran_ran src (runs i (drop f0 src)) (extend m τ d n t (drop f1 src)) _ (i * most_choices n) (most_choices n) f0 f1 f2 a0 a1 a2 d0 d1 d2 (omega (arith, r.size)) r q
      (ap (λ z. each w z (drop f0 src)) (tabulate_more g i)
      ∙ each_more w (tabulate i g) (g i) (drop f0 src)
      ∙ ap (λ (w : Run). ((runs i (drop f0 src)).0 ++ w.0, w.1)) (ap₂ (λ (t : ℕ) (cs : List ℕ). extend m τ d n t cs) (sym e) (sym r.left)))))

  pub runs_all : (s a c i f0 f1 a0 a1 : ℕ) (d0 d1 : List ℕ) → outcomes m s a ≡ tabulate c g → c ≤ 4 → i ≡ c → Ran (runs i (drop f0 src)) (i * most_choices n) src f0 f1 d0 d1 a0 a1
      → Ran (each (λ o. extend m τ d n o.target) (outcomes m s a) (drop f0 src)) (4 * most_choices n) src f0 f1 d0 d1 a0 a1
  runs_all s a c i f0 f1 a0 a1 d0 d1 e l h q =
      subst (λ l. Ran (each (λ o. extend m τ d n o.target) l (drop f0 src)) (4 * most_choices n) src f0 f1 d0 d1 a0 a1)
      (ap (λ i. tabulate i g) h ∙ sym e)
      (ran_most src (runs i (drop f0 src)) (i * most_choices n) (4 * most_choices n) f0 f1 a0 a1 d0 d1 (mul-le-mul_right (most_choices n) (omega arith)) q)
