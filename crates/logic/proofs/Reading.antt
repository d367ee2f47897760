-- Reading a plan from its choices: what is read is a plan with these choices, and every plan is read back.
use Prim.Native.Nat.{ℕ, zero, suc}
use mathlib.Core.Path.{◌≡◌, refl, sym, ap, subst, ◌∙◌}
use mathlib.Core.Bool.{true, false≢true}
use mathlib.Core.List.Memᴰ
use mathlib.Core.List.{List, [], ◌∷◌, ◌++◌, flat_map, append_assoc, append-nil, Memᴰ}
use lib.Dec.{eqb}
use Rattle.logic.specs.Lists.{any, is_empty}
use Rattle.logic.specs.Model.{Model, enabled, outcomes}
use Rattle.logic.specs.Plan.{Plan, plans, choices, Match, ends, pair}
use Rattle.logic.specs.Checked.{Checked, ok, ◌>>=◌, ◌>>◌, guard}
use Rattle.logic.specs.Choices.{read_each, read_plan, plan_of}
use Rattle.logic.proofs.Members.{plan_member, in_plans}
use Rattle.logic.proofs.Checked.{not_ok, ok_same, bind_ok, guard_ok}
use Rattle.logic.proofs.Tests.{eqb_eq, eq_eqb, any_some, any_there}

pub any_member : (a : ℕ) (l : List ℕ) → any (eqb a) l ≡ true → Memᴰ a l
any_member a l e = let w = any_some (eqb a) l e in Memᴰ.cast (eqb_eq a w.0 w.2) w.1

pub member_any : {a : ℕ} {l : List ℕ} → Memᴰ a l → any (eqb a) l ≡ true
member_any {a} i = any_there (eqb a) i (eq_eqb {a = a} refl)

module _ {A B : Type 0} (f : A → List ℕ → Checked (B × List ℕ)) (key : B → List ℕ) (R : A → B → Type 0) where
  each_sound : ((x : A) (cs : List ℕ) (y : B × List ℕ) → f x cs ≡ ok y → R x y.0 × (cs ≡ key y.0 ++ y.1))
      → (xs : List A) (cs : List ℕ) (ys : List B × List ℕ) → read_each f xs cs ≡ ok ys → Match R xs ys.0 × (cs ≡ flat_map key ys.0 ++ ys.1)
  unfolding read_each flat_map
  each_sound h [] cs ys e =
      let q = ok_same e in
      subst (λ z. Match R [] z.0 × (cs ≡ flat_map key z.0 ++ z.1)) q (ends, refl)
  each_sound h (x ∷ xs) cs ys e =
      let u = bind_ok (f x cs) _ e in
      let v = bind_ok (read_each f xs u.0.1) _ u.2 in
      let i = h x cs u.0 u.1 in
      let j = each_sound h xs u.0.1 v.0 v.1 in
      subst (λ z. Match R (x ∷ xs) z.0 × (cs ≡ flat_map key z.0 ++ z.1)) (ok_same v.2)
      (pair i.0 j.0, i.1 ∙ ap (λ z. key u.0.0 ++ z) j.1 ∙ sym (append_assoc (key u.0.0) (flat_map key v.0.0) v.0.1))

  each_complete : ((x : A) (y : B) (r : List ℕ) → R x y → f x (key y ++ r) ≡ ok (y, r))
      → {xs : List A} {ys : List B} (r : List ℕ) → Match R xs ys → read_each f xs (flat_map key ys ++ r) ≡ ok (ys, r)
  unfolding read_each flat_map
  each_complete h r ends = refl
  each_complete h r (pair {x} {y} {xs} {ys} p t) =
      ap (λ z. f x z >>= (λ u. read_each f xs u.1 >>= (λ v. ok (u.0 ∷ v.0, v.1)))) (append_assoc (key y) (flat_map key ys) r)
      ∙ ap (λ z. z >>= (λ u. read_each f xs u.1 >>= (λ v. ok (u.0 ∷ v.0, v.1)))) (h x y (flat_map key ys ++ r) p)
      ∙ ap (λ z. z >>= (λ v. ok (y ∷ v.0, v.1))) (each_complete h r t)

module _ (m : Model) where
  pub read_sound : (n s : ℕ) (cs : List ℕ) (x : Plan n × List ℕ) → read_plan m n s cs ≡ ok x → Memᴰ x.0 (plans m n s) × (cs ≡ choices n x.0 ++ x.1)
  unfolding read_plan choices plans
  read_sound zero s cs x e = subst (λ z. Memᴰ z.0 (plans m 0 s) × (cs ≡ z.1)) (ok_same e) (Memᴰ.head refl, refl)
  read_sound (suc n) s [] x e = absurd (not_ok e)
  read_sound (suc n) s (a ∷ cs) x e =
      let u = guard_ok 10 (any (eqb a) (enabled m s)) _ e in
      let v = bind_ok (read_each (λ o. read_plan m n o.target) (outcomes m s a) cs) _ u.1 in
      let w = each_sound (λ o. read_plan m n o.target) (choices n) (λ o q. Memᴰ q (plans m n o.target))
      (λ o ds y q. read_sound n o.target ds y q) (outcomes m s a) cs v.0 v.1 in
      subst (λ z. Memᴰ z.0 (plans m (suc n) s) × (a ∷ cs ≡ choices (suc n) z.0 ++ z.1)) (ok_same v.2)
      (in_plans m n s (a, v.0.0) (any_member a (enabled m s) u.0) w.0, ap (λ z. a ∷ z) w.1)

  pub read_complete : (n s : ℕ) (p : Plan n) (r : List ℕ) → Memᴰ p (plans m n s) → read_plan m n s (choices n p ++ r) ≡ ok (p, r)
  unfolding read_plan choices
  read_complete zero s p r h = refl
  read_complete (suc n) s p r h =
      let u = plan_member m n s p h in
      let below = read_each (λ o. read_plan m n o.target) (outcomes m s p.0) (flat_map (choices n) p.1 ++ r) in
      ap (λ t. guard 10 t >> (below >>= (λ qs. ok ((p.0, qs.0), qs.1)))) (member_any u.0)
      ∙ ap (λ z. z >>= (λ qs. ok ((p.0, qs.0), qs.1)))
      (each_complete (λ o. read_plan m n o.target) (choices n) (λ o q. Memᴰ q (plans m n o.target))
      (λ o q ds i. read_complete n o.target q ds i) r u.1)

  pub plan_of_sound : (n s : ℕ) (cs : List ℕ) (p : Plan n) → plan_of m n s cs ≡ ok p → Memᴰ p (plans m n s) × (choices n p ≡ cs)
  unfolding plan_of is_empty
  plan_of_sound n s cs p e =
      let u = bind_ok (read_plan m n s cs) _ e in
      let v = guard_ok 10 (is_empty u.0.1) _ u.2 in
      let w = read_sound n s cs u.0 u.1 in
      let q : choices n u.0.0 ≡ cs = sym (append-nil (choices n u.0.0)) ∙ ap (λ z. choices n u.0.0 ++ z) (sym (none_left u.0.1 v.0)) ∙ sym w.1 in
      subst (λ z. Memᴰ z (plans m n s) × (choices n z ≡ cs)) (ok_same v.1) (w.0, q)
    where
      none_left : (l : List ℕ) → is_empty l ≡ true → l ≡ []
      none_left [] h = refl
      none_left (x ∷ l) h = absurd (false≢true h)

  pub plan_of_complete : (n s : ℕ) (p : Plan n) → Memᴰ p (plans m n s) → plan_of m n s (choices n p) ≡ ok p
  unfolding plan_of is_empty
  plan_of_complete n s p h =
      ap (λ z. z >>= (λ x. guard 10 (is_empty x.1) >> ok x.0)) (ap (read_plan m n s) (sym (append-nil (choices n p))) ∙ read_complete n s p [] h)
