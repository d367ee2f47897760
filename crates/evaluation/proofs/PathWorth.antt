-- Where as many steps are taken as a path's worth looks ahead, what `worth` reads is what the path is worth, however it goes on; and it is small.
use Prim.Native.Nat.{ℕ, zero, suc, ◌*◌, ◌-◌, ◌/◌, ◌%◌, ◌≤◌, ◌<◌}
use native.Mathlib.Omega.{arith}
use native.Mathlib.Nat.{le_trans}
use mathlib.Core.Path.{◌≡◌, refl, sym, ap, ap₂, subst, ◌∙◌}
use mathlib.Core.Logic.{⊎_elim}
use mathlib.Core.List.Memᴰ
use mathlib.Core.List.{List, [], ◌∷◌, ◌++◌}
use lib.IntN.{ℤ, pos, nat_abs, ◌+ℤ◌, ◌-ℤ◌}
use lib.ListN.{length, get_or, take, drop, take-append-drop}
use lib.Seq.{take-take, take-append-le}
use Rattle.logic.specs.Model.{Step}
use Rattle.logic.specs.Quantity.{naturals, sum}
use Rattle.logic.specs.Bound.{gain_between}
use Rattle.logic.specs.Formula.{depth}
use Rattle.logic.specs.promises.Raised.{raise, raised, Modest}
use Rattle.logic.specs.promises.Total.{value_of}
use Rattle.logic.proofs.WholeTotals.{AllModest, worth_raised}
use Rattle.blocks.specs.Bytes.{Bytes}
use Rattle.models.specs.Layout.{state_count, action_count, prop_count}
use Rattle.prepared_model.specs.promises.Rows.{step_in, model_in, Prepared}
use Rattle.prepared_question.specs.promises.Nodes.{formula, Nodes}
use Rattle.evaluation.specs.promises.Path.{step_of, steps_of, Trail, stop, move, gain_of}
use Rattle.evaluation.specs.promises.Reached.{root_of, Ready}
use Rattle.evaluation.specs.promises.Learnt.{known}
use Rattle.evaluation.specs.promises.Known.{Knows}
use Rattle.evaluation.specs.promises.Worth.{worth_of, worth_on, raised_known, worth_known, Readable}
use Rattle.evaluation.proofs.Integers.{rest_of_sum}
use Rattle.evaluation.proofs.LearntInOrder.{one_if_small}
use Rattle.evaluation.proofs.Trails.{steps_length}
use Rattle.evaluation.proofs.OperatorMeaning.{gain_append}
use Rattle.evaluation.proofs.StepTaken.{leaf_value}

-- ---- by the cone

pub known_of_gain : (cone : List ℕ) (gains : List ℤ) (v : List ℕ) (a d : ℕ) → length cone ≡ 0 → worth_known cone gains v a d ≡ nat_abs (raised_known gains a d)
unfolding worth_known
known_of_gain [] gains v a d e = refl
known_of_gain (c ∷ cone) gains v a d e = absurd (omega arith)

pub known_of_value : (cone : List ℕ) (gains : List ℤ) (v : List ℕ) (a d : ℕ) → 0 < length cone → worth_known cone gains v a d ≡ known v (root_of cone) 0
unfolding worth_known
known_of_value [] gains v a d h = absurd (omega arith)
known_of_value (c ∷ cone) gains v a d h = refl

module _ (m q : Bytes) (start a d : ℕ) where
  pub worth_condition : (cone : List ℕ) → 0 < length cone → worth_of m q start a d cone ≡ value_of (model_in m) (formula q (root_of cone)) start
  unfolding worth_of
  worth_condition [] h = absurd (omega arith)
  worth_condition (c ∷ cone) h = refl

  pub worth_gain : (cone : List ℕ) → length cone ≡ 0 → worth_of m q start a d cone ≡ raised a d
  unfolding worth_of
  worth_gain [] e = refl
  worth_gain (c ∷ cone) e = absurd (omega arith)

-- With no nodes in the cone, nothing is asked of them.
pub ready_none : {m q : Bytes} {s : ℕ} (truth : List ℕ) → Prepared m → Nodes (state_count m) (action_count m) (prop_count m) q → s < state_count m → Ready m q s truth []
ready_none truth p n h =
    record {
      prepared = p;
      nodes = n;
      state = h;
      ordered = record { nodes = λ i l. absurd (omega arith); lefts = λ i l. absurd (omega arith); rights = λ i l. absurd (omega arith) };
      truth_right = λ l. absurd (omega arith);
    }

-- ---- modest rewards

modest_append : (r l : List Step) → AllModest r → AllModest l → AllModest (r ++ l)
modest_append r l h g o i = ⊎_elim (h o) (g o) (Memᴰ.append_cases r i)

pub modest_cons : (o : Step) (r : List Step) → Modest o.reward → AllModest r → AllModest (o ∷ r)
modest_cons o r h g p i = ⊎_elim (λ e. subst (λ (z : Step). Modest z.reward) (sym e) h) (g p) (Memᴰ.cases_cons i)

trail_modest : {m : List ℕ} → Prepared m → {s : ℕ} {t : List ℕ} → Trail m s t → s < state_count m → AllModest (steps_of m s t)
unfolding steps_of step_of
trail_modest w stop h = λ o i. absurd (Memᴰ.not-nil i)
trail_modest {m} w (move {s} {b} {t} u r) h =
    let p : Step = step_in m s (b % 32 / 4) (b % 4) in
    modest_cons p (steps_of m p.target t) (w.raisable s (b % 32 / 4) (b % 4) h u.offers) (trail_modest w r (w.inside s (b % 32 / 4) (b % 4) h u.offers))

-- A raised gain up to step d is at most 2000 d.
pub raised_most : (a d : ℕ) (r : List Step) → AllModest r → sum naturals (λ o. raise o.reward) (drop a (take d r)) ≤ 2000 * d
unfolding sum
raised_most zero zero r h = omega arith
raised_most (suc a) zero r h = omega arith
raised_most zero (suc d) [] h = omega arith
raised_most (suc a) (suc d) [] h = omega arith
raised_most zero (suc d) (o ∷ r) h = omega (arith, (h o (Memᴰ.head refl)).small, raised_most zero d r (λ p i. h p (Memᴰ.tail i)))
raised_most (suc a) (suc d) (o ∷ r) h = omega (arith, raised_most a d r (λ p i. h p (Memᴰ.tail i)))

worth_small : (m q : Bytes) (start a d : ℕ) (cone : List ℕ) (ρ : List Step) → d ≤ 6 → AllModest ρ → worth_of m q start a d cone ρ ≤ 12000
unfolding worth_of raised
worth_small m q start a d [] ρ l h = omega (arith, raised_most a d ρ h)
worth_small m q start a d (c ∷ cone) ρ l h = le_trans (one_if_small _) (omega arith)

-- Of a path of the model that begins with the trail t.
pub worth_on_small : {m q : Bytes} {start : ℕ} {truth cone t : List ℕ} (a d : ℕ) → Ready m q start truth cone → Trail m start t → d ≤ 6 → (r : List Step) → AllModest r
    → worth_on m q start a d cone t r ≤ 12000
worth_on_small {m} {q} {start} {cone = cone} {t} a d ready followed l r h =
    worth_small m q start a d cone (steps_of m start t ++ r) l (modest_append (steps_of m start t) r (trail_modest ready.prepared followed ready.state) h)

-- ---- what is read is what the path is worth

raised_append : (a d : ℕ) (R r : List Step) → d ≤ length R → raised a d (R ++ r) ≡ raised a d R
unfolding raised
raised_append a d R r h = ap (λ l. sum naturals (λ o. raise o.reward) (drop a l)) (take-append-le d R r h)

module _ {m q : Bytes} {start : ℕ} {truth : List ℕ} (a d : ℕ) (from : a ≤ d) where
  module _ {cone : List ℕ} (ready : Ready m q start truth cone) {t : List ℕ} {gains : List ℤ} {v : List ℕ} (knows : Knows m q start cone t gains v)
      (h : d ≤ length t) where
    gain_known : raised_known gains a d ≡ pos (raised a d (steps_of m start t))
    unfolding gain_between
    gain_known =
        let R : List Step = steps_of m start t in
        let L : List Step = drop a (take d R) in
        let i : suc a - 1 ≡ a = omega arith in
        let split : gain_of (take d R) ≡ gain_of (take a R) +ℤ gain_of L =
        ap gain_of (sym (take-append-drop a (take d R))) ∙ gain_append (take a (take d R)) L ∙ ap (λ l. gain_of l +ℤ gain_of L) (take-take a d R from) in
        let between : get_or gains d (pos 0) -ℤ get_or gains a (pos 0) ≡ gain_of L =
        ap₂ ◌-ℤ◌ (knows.gained.right d h ∙ split) (knows.gained.right a (omega arith)) ∙ rest_of_sum (gain_of (take a R)) (gain_of L) in
        ap (λ z. z +ℤ pos (1000 * (d - a))) (between ∙ ap (λ n. gain_of (drop n (take d R))) (sym i))
        ∙ worth_raised a d R (trail_modest ready.prepared knows.followed ready.state) (omega (arith, steps_length m start t))

    pub worth_readable : length t ≤ 6 → Readable cone gains a d
    worth_readable few = record { from = from; steps = omega arith; natural = λ e. gain_known ∙ ap pos (sym (ap nat_abs gain_known)) }

  pub worth_here : (cone : List ℕ) → Ready m q start truth cone → (0 < length cone → d ≡ depth (formula q (root_of cone)))
      → {t : List ℕ} {gains : List ℤ} {v : List ℕ} → Knows m q start cone t gains v → d ≤ length t
      → (r : List Step) → worth_known cone gains v a d ≡ worth_on m q start a d cone t r
  unfolding worth_of worth_known
  worth_here [] ready looks {t} knows h r =
      ap nat_abs (gain_known ready knows h) ∙ sym (raised_append a d (steps_of m start t) r (omega (arith, steps_length m start t)))
  worth_here (c ∷ cone) ready looks {t} {gains} {v} knows h r = leaf_value ready (omega arith) t gains v knows (omega (arith, looks (omega arith))) r
