-- Paths of a search: a step more leads to the outcome's target, where the value of the rest is the value with the step taken; and after
-- the search below, the trail is back.
use Prim.Native.Nat.{ℕ, ◌+◌, ◌≤◌, ◌<◌}
use native.Mathlib.Omega.{arith}
use mathlib.Core.Path.{◌≡◌, refl, ap, ap₂, subst, ◌∙◌}
use mathlib.Core.Bool.{Bool}
use mathlib.Core.List.{List, [], ◌∷◌}
use lib.IntN.{ℤ}
use lib.ListN.{length, take}
use Rattle.logic.specs.promises.Orders.{weights, order}
use Rattle.logic.specs.Plan.{choices}
use Rattle.logic.specs.promises.Recursion.{greatest}
use Rattle.logic.specs.promises.Total.{value_of}
use Rattle.blocks.specs.Bytes.{Bytes}
use Rattle.models.specs.Layout.{state_count}
use Rattle.prepared_model.specs.promises.Rows.{choices_in, outcomes_in, step_in, Offers, model_in}
use Rattle.prepared_question.specs.promises.Nodes.{formula}
use Rattle.evaluation.specs.promises.Reached.{root_of, on_path}
use Rattle.evaluation.specs.promises.Learnt.{known}
use Rattle.evaluation.specs.promises.Known.{Offered, Stepped, Back}
use Rattle.evaluation.proofs.StepUndone.{back_same, knows_back, state_back, step_back}
use Rattle.evaluation.proofs.StepTaken.{state_reached, leaf_value, state_stepped, whole_stepped, path_stepped}
use Rattle.best_plan.specs.promises.Greatest.{best_choices}
use Rattle.best_plan.specs.promises.Buffers.{Wrote, Setting, Picked}
use Rattle.best_plan.specs.declared.Walked.{Walked}
use Rattle.best_plan.proofs.ChoiceStack.{wrote_none}

module _ {m q : Bytes} {truth cone late : List ℕ} {start : ℕ} {trail : List ℕ} {gains : List ℤ} {v : List ℕ} {h s k : ℕ}
    (S : Setting m q truth cone late start trail gains v h s k) where
  pub state_here : s < state_count m
  state_here = state_reached S.ready S.knows S.state

  pub place_here : {i : ℕ} → i < choices_in m s → (s < 32) × (i < 8)
  place_here {i} l = let w = S.ready.prepared in omega (arith, state_here, w.states, w.few_choices s state_here)

  pub few_here : {i : ℕ} → i < choices_in m s → outcomes_in m s i ≤ 4
  few_here {i} l = S.ready.prepared.few_outcomes s i state_here l

  -- Where no step is left, the value is known.
  leaf_here : k ≡ 0 → known v (root_of cone) 0 ≡ on_path m q start cone (take h trail) []
  leaf_here e = leaf_value S.ready S.marked.some (take h trail) gains v S.knows (omega (arith, S.deep, S.whole)) []

  pub picked_leaf : (least : Bool) (b : Walked) (at : ℕ) (c : List ℕ) → k ≡ 0 → (b.value ≡ known v (root_of cone) 0) × (b.end ≡ at)
      → Picked least m (on_path m q start cone (take h trail)) s k at c c b
  unfolding greatest best_choices choices
  picked_leaf least b at c e g =
      let none : Wrote (best_choices least (model_in m) k s (on_path m q start cone (take h trail))) at c c at = rw e (wrote_none at c) in
      record { value = g.0 ∙ leaf_here e ∙ rw e refl; wrote = rw g.1 none }

-- The buffers after some searches below: as long as they were, with the trail back.
pub record Kept (m q : Bytes) (start : ℕ) (cone : List ℕ) (h : ℕ) (trail : List ℕ) (gains : List ℤ) (v choices trail' : List ℕ) (gains' : List ℤ)
    (v' choices' : List ℕ) : Type 0 where
  pub back : Back m q start cone h trail trail' gains' v'
  pub room : length choices' ≡ length choices

module _ {m q : Bytes} {truth cone late : List ℕ} {start : ℕ} {trail : List ℕ} {gains : List ℤ} {v : List ℕ} {h s k : ℕ}
    (S : Setting m q truth cone late start trail gains v h s k) where
  pub back_none : Back m q start cone h trail trail gains v
  back_none = record { kept = refl; knows = S.knows }

  pub kept_none : (choices : List ℕ) → Kept m q start cone h trail gains v choices trail gains v choices
  kept_none choices = record { back = back_none; room = refl }

  pub setting_kept : {choices trail' : List ℕ} {gains' : List ℤ} {v' choices' : List ℕ} → Kept m q start cone h trail gains v choices trail' gains' v' choices'
      → Setting m q truth cone late start trail' gains' v' h s k
  setting_kept K =
      record {
        ready = S.ready;
        marked = S.marked;
        whole = ap length K.back.kept ∙ S.whole;
        knows = knows_back K.back;
        state = state_back K.back ∙ S.state;
        deep = S.deep;
        few = S.few;
      }

-- Kept by what came before, and by what comes after.
pub kept_kept : {m q : Bytes} {start h : ℕ} {cone t0 : List ℕ} {g0 : List ℤ} {v0 c0 t1 : List ℕ} {g1 : List ℤ} {v1 c1 t2 : List ℕ} {g2 : List ℤ} {v2 c2 : List ℕ}
    → Kept m q start cone h t0 g0 v0 c0 t1 g1 v1 c1 → Back m q start cone h t1 t2 g2 v2 → length c2 ≡ length c1 → Kept m q start cone h t0 g0 v0 c0 t2 g2 v2 c2
kept_kept K B e = record { back = back_same K.back.kept B; room = e ∙ K.room }

-- ---- a step

module _ {m q : Bytes} {truth cone late : List ℕ} {start : ℕ} {trail : List ℕ} {gains : List ℤ} {v : List ℕ} {h s : ℕ} (k : ℕ)
    (S : Setting m q truth cone late start trail gains v h s (k + 1)) (a o : ℕ) (offers : Offers m s a o) where
  pub offered : Offered m start trail h s a o
  offered = record { steps = omega (arith, S.few); state = S.state; offers = offers }

  module _ {trail' : List ℕ} {gains' : List ℤ} {v' : List ℕ} {t : ℕ} (T : Stepped m q start cone h s a o trail trail' gains' v' t) where
    pub setting_on : Setting m q truth cone late start trail' gains' v' (h + 1) t k
    setting_on =
        record {
          ready = S.ready;
          marked = S.marked;
          whole = whole_stepped S.ready offered S.knows T;
          knows = T.knows;
          state = state_stepped S.ready offered S.knows T;
          deep = omega (arith, S.deep);
          few = omega (arith, S.few);
        }

    pub back_on : {trail'' : List ℕ} {gains'' : List ℤ} {v'' : List ℕ} → Back m q start cone (h + 1) trail' trail'' gains'' v'' → Back m q start cone h trail trail'' gains'' v''
    back_on = step_back T

    -- What is picked after the step is the best below the outcome; t0 is the trail that the first h steps were.
    module _ {t0 : List ℕ} (e : take h trail ≡ t0) where
      same_value : on_path m q start cone (take (h + 1) trail') ≡ λ r. on_path m q start cone t0 (step_in m s a o ∷ r)
      same_value = path_stepped S.ready offered S.knows T (value_of (model_in m) (formula q (root_of cone)) start) ∙ ap (λ t r. on_path m q start cone t (step_in m s a o ∷ r)) e

      module _ {least : Bool} {at : ℕ} {before after : List ℕ} {b : Walked} (P : Picked least m (on_path m q start cone (take (h + 1) trail')) t k at before after b) where
        pub picked_value : b.value ≡ greatest (weights (order least)) (model_in m) k (step_in m s a o).target (λ r. on_path m q start cone t0 (step_in m s a o ∷ r))
        picked_value = P.value ∙ ap₂ (λ x f. greatest (weights (order least)) (model_in m) k x f) T.state same_value

        pub picked_wrote : Wrote (best_choices least (model_in m) k (step_in m s a o).target (λ r. on_path m q start cone t0 (step_in m s a o ∷ r))) at before after b.end
        picked_wrote = subst (λ x. Wrote x at before after b.end) (ap₂ (λ x f. best_choices least (model_in m) k x f) T.state same_value) P.wrote
