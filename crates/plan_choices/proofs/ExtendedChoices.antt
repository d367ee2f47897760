-- What a run writes of the choices of a plan: the choices of the plan extended; what follows the plan's choices is left to read.
use Prim.Native.Nat.{ℕ, zero, suc, ◌-◌, ◌≤◌, ◌<◌}
use native.Mathlib.Omega.{arith}
use native.Mathlib.Nat.{not-suc-le-zero, le_of_suc-le-suc, min-eq_left}
use mathlib.Core.Path.{◌≡◌, refl, sym, ap, ap₂, subst, ◌∙◌}
use mathlib.Core.List.{List, [], ◌∷◌, ◌++◌, map, flat_map, append_assoc, Memᴰ}
use lib.ListN.{drop, get_or, length}
use Rattle.logic.specs.Lists.{join}
use Rattle.logic.specs.Model.{Model, outcomes}
use Rattle.logic.specs.Plan.{Plan, choices, Match, ends, pair}
use Rattle.logic.specs.Order.{IsPlan}
use Rattle.logic.specs.Accepted.{Accepted, Executable}
use Rattle.logic.specs.promises.Extension.{first_choice, chosen_plan, first_plan, extended}
use Rattle.logic.proofs.FirstChoice.{map_same}
use Rattle.logic.proofs.Members.{match_weaken}
use Rattle.plan_choices.specs.promises.Extended.{Run, each, choice_at, after_choice, extend}

module _ {A : Type 0} (f : A → List ℕ → Run) where
  -- Runs that read nothing.
  each_unread : (w : A → List ℕ) (l : List A) (cs : List ℕ) → ((x : A) → f x cs ≡ (w x, cs)) → each f l cs ≡ (flat_map w l, cs)
  unfolding each flat_map
  each_unread w [] cs h = refl
  each_unread w (x ∷ l) cs h =
      ap (λ (y : Run). (y.0 ++ (each f l y.1).0, (each f l y.1).1)) (h x) ∙ ap (λ (y : Run). (w x ++ y.0, y.1)) (each_unread w l cs h)

  -- Runs that each read the choices of one thing.
  each_read : {B : Type 0} (c : B → List ℕ) (w : A → B → List ℕ) (xs : List A) (ys : List B) (rest : List ℕ)
      → Match (λ x y. (r : List ℕ) → f x (c y ++ r) ≡ (w x y, r)) xs ys → each f xs (flat_map c ys ++ rest) ≡ (join w xs ys, rest)
  unfolding each flat_map join
  each_read c w [] [] rest ends = refl
  each_read {B = B} c w [] (y ∷ ys) rest h = elim h [ ]
  each_read {B = B} c w (x ∷ xs) [] rest h = elim h [ ]
  each_read c w (x ∷ xs) (y ∷ ys) rest (pair h t) =
      ap (λ cs. ((f x cs).0 ++ (each f xs (f x cs).1).0, (each f xs (f x cs).1).1)) (append_assoc (c y) (flat_map c ys) rest)
      ∙ ap (λ (z : Run). (z.0 ++ (each f xs z.1).0, (each f xs z.1).1)) (h (flat_map c ys ++ rest))
      ∙ ap (λ (z : Run). (w x y ++ z.0, z.1)) (each_read c w xs ys rest t)

flat_map-map : {A B C : Type 0} (f : B → List C) (g : A → B) (l : List A) → flat_map (λ x. f (g x)) l ≡ flat_map f (map g l)
unfolding flat_map
flat_map-map f g [] = refl
flat_map-map f g (x ∷ l) = ap (λ z. f (g x) ++ z) (flat_map-map f g l)

flat_map_join : {A B C D : Type 0} (f : C → List D) (g : A → B → C) (xs : List A) (ys : List B) → join (λ x y. f (g x y)) xs ys ≡ flat_map f (join (λ x y. g x y ∷ []) xs ys)
unfolding flat_map join
flat_map_join f g [] ys = refl
flat_map_join f g (x ∷ xs) [] = refl
flat_map_join f g (x ∷ xs) (y ∷ ys) = ap (λ z. f (g x y) ++ z) (flat_map_join f g xs ys)

module _ (m : Model) (τ : ℕ → ℕ → ℕ) where
  -- With no steps to read, the choices of the table's plan are written.
  pub extend_table : (n s : ℕ) (cs : List ℕ) → extend m τ 0 n s cs ≡ (choices n (chosen_plan m τ n s), cs)
  unfolding extend choices chosen_plan choice_at after_choice
  extend_table zero s cs = refl
  extend_table (suc n) s cs =
      let a : ℕ = τ (suc n) s in
      ap (λ (y : Run). (a ∷ y.0, y.1))
      (each_unread (λ o. extend m τ 0 n o.target) (λ o. choices n (chosen_plan m τ n o.target)) (outcomes m s a) cs (λ o. extend_table n o.target cs)
      ∙ ap (λ w. (w, cs)) (flat_map-map (choices n) (λ o. chosen_plan m τ n o.target) (outcomes m s a)))

  module _ (accepted : Accepted m) (first : (k s : ℕ) → s < length m.states → τ (suc k) s ≡ first_choice m s) where
    first_in : (s : ℕ) → s < length m.states → Executable m s (first_choice m s)
    unfolding first_choice
    first_in s h =
        let w = accepted.some_choice s h in
        record { state = h; choice = subst (λ l. Memᴰ (get_or l 0 0) l) (sym w.2) (Memᴰ.head refl) }

    -- A table of first choices has the first plan.
    first_chosen : (n s : ℕ) → s < length m.states → chosen_plan m τ n s ≡ first_plan m n s
    unfolding chosen_plan first_plan
    first_chosen zero s h = refl
    first_chosen (suc n) s h =
        ap (λ a. (a, map (λ o. chosen_plan m τ n o.target) (outcomes m s a))) (first n s h)
        ∙ ap (λ ps. (first_choice m s, ps))
        (map_same _ (λ o. first_plan m n o.target) (outcomes m s (first_choice m s)) (λ o i. first_chosen n o.target (accepted.inside (first_in s h) o i)))

    -- The choices of a d-step plan, with whatever follows them, become those of its extension to n steps.
    pub extend_choices : (d n s : ℕ) (p : Plan d) (rest : List ℕ) → d ≤ n → s < length m.states → IsPlan m d s p
        → extend m τ d n s (choices d p ++ rest) ≡ (choices n (extended m d n s p), rest)
    unfolding choices extended extend choice_at after_choice
    extend_choices zero n s p rest h k i = extend_table n s rest ∙ ap (λ π. (choices n π, rest)) (first_chosen n s k)
    extend_choices (suc d) zero s p rest h k i = absurd (not-suc-le-zero h)
    extend_choices (suc d) (suc n) s p rest h k i =
        let a : ℕ = p.0 in
        let cs : List ℕ = flat_map (choices d) p.1 ++ rest in
        let one : suc d - 1 ≡ d = omega arith in
        let x : Executable m s a = record { state = k; choice = i.0 } in
        ap₂ (λ (k : ℕ) (l : List ℕ). after_choice a (each (λ o. extend m τ k n o.target) (outcomes m s a) l)) one
        (ap (λ (k : ℕ). drop k (a ∷ cs)) (min-eq_left {n = 1} {m = suc d} (omega arith)))
        ∙ ap (after_choice a)
        (each_read (λ o. extend m τ d n o.target) (choices d) (λ o q. choices n (extended m d n o.target q)) (outcomes m s a) p.1 rest
        (match_weaken (λ o q j e r. extend_choices d n o.target q r (le_of_suc-le-suc h) (accepted.inside x o j) e) i.1))
        ∙ ap (λ (w : List ℕ). (a ∷ w, rest)) (flat_map_join (choices n) (λ o q. extended m d n o.target q) (outcomes m s a) p.1)
