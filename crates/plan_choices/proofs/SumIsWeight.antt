-- The sum over the choices of a plan is its total, by the first step as the choices are read.
use Prim.Native.Nat.{ℕ, zero, suc, ◌+◌, ◌*◌}
use native.Mathlib.Omega.{arith}
use mathlib.Core.Path.{◌≡◌, refl, sym, ap, subst, ◌∙◌}
use mathlib.Core.Bool.{Bool, true, false}
use mathlib.Core.List.{List, [], ◌∷◌}
use lib.Dec.{eqb}
use Rattle.logic.specs.Lists.{any, is_empty}
use Rattle.logic.specs.Checked.{Checked, ok, refused, ◌>>=◌, ◌>>◌, guard}
use Rattle.logic.specs.promises.Refusal.{refusal}
use Rattle.logic.specs.Model.{Model, Step, enabled, outcomes}
use Rattle.logic.specs.Quantity.{naturals}
use Rattle.logic.specs.Plan.{Plan}
use Rattle.logic.specs.Choices.{read_each, read_plan, plan_of}
use Rattle.logic.specs.Bound.{total}
use Rattle.logic.proofs.Checked.{not_ok, ok_same, bind_ok, guard_ok}
use Rattle.logic.proofs.Sums.{naturals_additive, sum_pairs, total_zero, total_step}
use Rattle.plan_choices.specs.promises.PlanSum.{Run, each, weigh}

-- ---- a plan read

module _ {P : Type 0} (f : Step → List ℕ → Run) (read : Step → List ℕ → Checked (P × List ℕ)) (t : Step → P → ℕ) where
  each_read : ((o : Step) (cs : List ℕ) (y : P × List ℕ) → read o cs ≡ ok y → f o cs ≡ (t o y.0, y.1))
      → (os : List Step) (cs : List ℕ) (ys : List P × List ℕ) → read_each read os cs ≡ ok ys
      → each f os cs ≡ (sum_pairs naturals (λ o q. o.weight * t o q) os ys.0, ys.1)
  unfolding each read_each sum_pairs
  each_read h [] cs ys e = subst (λ z. each f [] cs ≡ (0, z.1)) (ok_same e) refl
  each_read h (o ∷ os) cs ys e =
      let u = bind_ok (read o cs) _ e in
      let v = bind_ok (read_each read os u.0.1) _ u.2 in
      subst (λ z. each f (o ∷ os) cs ≡ (sum_pairs naturals (λ o q. o.weight * t o q) (o ∷ os) z.0, z.1)) (ok_same v.2)
      (ap (λ (x : Run). (o.weight * x.0 + (each f os x.1).0, (each f os x.1).1)) (h o cs u.0 u.1)
      ∙ ap (λ (y : Run). (o.weight * t o u.0.0 + y.0, y.1)) (each_read h os u.0.1 v.0 v.1))

module _ (M : Model) where
  -- A choice, with what was read below its outcomes.
  weigh_choice : (n s : ℕ) (f : List Step → ℕ) (a : ℕ) (cs : List ℕ) (qs : List (Plan n)) (rest : List ℕ)
      → each (λ o. weigh M n o.target (λ r. f (o ∷ r))) (outcomes M s a) cs
      ≡ (sum_pairs naturals (λ o q. o.weight * total naturals M n o.target q (λ r. f (o ∷ r))) (outcomes M s a) qs, rest)
      → weigh M (suc n) s f (a ∷ cs) ≡ (total naturals M (suc n) s (a, qs) f, rest)
  unfolding weigh
  weigh_choice n s f a cs qs rest e = e ∙ ap (λ t. (t, rest)) (sym (total_step naturals naturals_additive M n s (a, qs) f))

  pub weigh_read : (n s : ℕ) (f : List Step → ℕ) (cs : List ℕ) (x : Plan n × List ℕ) → read_plan M n s cs ≡ ok x
      → weigh M n s f cs ≡ (total naturals M n s x.0 f, x.1)
  unfolding weigh read_plan
  weigh_read zero s f cs x e =
      subst (λ z. weigh M 0 s f cs ≡ (total naturals M 0 s z.0 f, z.1)) (ok_same e) (ap (λ v. (v, cs)) (sym (total_zero naturals naturals_additive M s tt f)))
  weigh_read (suc n) s f [] x e = absurd (not_ok e)
  weigh_read (suc n) s f (a ∷ cs) x e =
      let u = guard_ok 10 (any (eqb a) (enabled M s)) _ e in
      let v = bind_ok (read_each (λ o. read_plan M n o.target) (outcomes M s a) cs) _ u.1 in
      let w = each_read (λ o. weigh M n o.target (λ r. f (o ∷ r))) (λ o. read_plan M n o.target) (λ o q. total naturals M n o.target q (λ r. f (o ∷ r)))
      (λ o ds y q. weigh_read n o.target (λ r. f (o ∷ r)) ds y q) (outcomes M s a) cs v.0 v.1 in
      subst (λ z. weigh M (suc n) s f (a ∷ cs) ≡ (total naturals M (suc n) s z.0 f, z.1)) (ok_same v.2) (weigh_choice n s f a cs v.0.0 v.0.1 w)

  pub plan_weighed : (n s : ℕ) (f : List Step → ℕ) (cs : List ℕ) (π : Plan n) → plan_of M n s cs ≡ ok π → (weigh M n s f cs).0 ≡ total naturals M n s π f
  unfolding plan_of
  plan_weighed n s f cs π e =
      let u = bind_ok (read_plan M n s cs) _ e in
      let v = guard_ok 10 (is_empty u.0.1) _ u.2 in
      ap (λ (x : Run). x.0) (weigh_read n s f cs u.0 u.1) ∙ ap (λ π. total naturals M n s π f) (ok_same v.1)

-- ---- choices that are not refused spell a plan

There : {A : Type 0} → Checked A → Type 0
There {A} c = refusal c ≡ 0 → (a : A) × (c ≡ ok a)

bind_there : {A B : Type 0} (c : Checked A) (f : A → Checked B) → There c → ((a : A) → There (f a)) → There (c >>= f)
unfolding There
bind_there (ok a) f h g e = g a e
bind_there (refused k) f h g e = absurd (not_ok (h e).1)

guard_there : {A : Type 0} (k : ℕ) (t : Bool) (c : Checked A) → There c → There (guard (suc k) t >> c)
unfolding There
guard_there k true c h e = h e
guard_there k false c h e = absurd (omega arith)

each_there : {P : Type 0} (read : Step → List ℕ → Checked (P × List ℕ)) → ((o : Step) (cs : List ℕ) → There (read o cs)) → (os : List Step) (cs : List ℕ) → There (read_each read os cs)
unfolding There read_each
each_there read h [] cs e = (([], cs), refl)
each_there read h (o ∷ os) cs e =
    bind_there (read o cs) _ (h o cs) (λ y. bind_there (read_each read os y.1) _ (each_there read h os y.1) (λ ys _. ((y.0 ∷ ys.0, ys.1), refl))) e

read_there : (M : Model) (n s : ℕ) (cs : List ℕ) → There (read_plan M n s cs)
unfolding There read_plan
read_there M zero s cs e = ((tt, cs), refl)
read_there M (suc n) s [] e = absurd (omega arith)
read_there M (suc n) s (a ∷ cs) e =
    guard_there 9 (any (eqb a) (enabled M s)) _
    (bind_there (read_each (λ o. read_plan M n o.target) (outcomes M s a) cs) _ (each_there (λ o. read_plan M n o.target) (λ o ds. read_there M n o.target ds) (outcomes M s a) cs)
    (λ qs _. (((a, qs.0), qs.1), refl))) e

pub plan_there : (M : Model) (n s : ℕ) (cs : List ℕ) → refusal (plan_of M n s cs) ≡ 0 → (π : Plan n) × (plan_of M n s cs ≡ ok π)
unfolding There plan_of
plan_there M n s cs = bind_there (read_plan M n s cs) _ (read_there M n s cs) (λ x. guard_there 9 (is_empty x.1) (ok x.0) (λ _. (x.0, refl)))
