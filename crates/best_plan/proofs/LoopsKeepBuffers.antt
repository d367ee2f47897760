-- One turn of each loop of the search, over its buffers.
use Prim.Native.Nat.{ℕ, suc, ◌+◌, ◌*◌, ◌-◌, ◌^◌, ◌≤◌, ◌<◌}
use native.Mathlib.Omega.{arith}
use native.Mathlib.Nat.{pos_of_ne-zero}
use mathlib.Core.Path.{◌≡◌, refl, sym, ap, subst, ◌∙◌}
use mathlib.Core.Bool.{Bool, true, false, not}
use mathlib.Core.List.{List, []}
use lib.IntN.{ℤ, pos}
use lib.ListN.{length, get_or, take, set, length-set}
use Rattle.logic.specs.Formula.{depth}
use Rattle.logic.specs.Model.{Step}
use Rattle.blocks.specs.Bytes.{Bytes}
use Rattle.models.specs.Layout.{denominator_of}
use Rattle.prepared_model.specs.promises.Rows.{choices_in, choice_in, outcomes_in, step_in, row_in, Offers, model_in, Prepared}
use Rattle.prepared_question.specs.promises.Nodes.{formula}
use Rattle.logic.specs.promises.MostChoices.{most_choices}
use Rattle.logic.proofs.MostChoices.{most_choices_step, most_choices_6}
use Rattle.evaluation.specs.promises.Path.{steps_of, state_after}
use Rattle.evaluation.specs.promises.Reached.{root_of, on_path, Cone, Ready}
use Rattle.evaluation.specs.promises.Learnt.{learnt}
use Rattle.evaluation.specs.promises.Known.{Knows, Offered, Stepped, Back}
use Rattle.evaluation.proofs.LearntInOrder.{one_if_small}
use Rattle.evaluation.proofs.StepTaken.{begun}
use Rattle.last_step.specs.promises.Late.{Late, Deep}
use Rattle.best_plan.specs.promises.Greatest.{best_choices, best_left, Finds}
use Rattle.best_plan.specs.promises.Buffers.{Setting, wins, end_of, Keeps, Picked, Candidate, walked, lost}
use Rattle.std.specs.Prelude.{Option, None, Some}
use Rattle.best_plan.specs.declared.Walked.{Walked}
use Rattle.best_plan.proofs.TotalsBounded.{choices_few}
use Rattle.best_plan.proofs.ChoicesTried.{Tried, first, tried_start, tried_room, keeps_inside, turn_taken, picked_all, some_best}
use Rattle.best_plan.proofs.OutcomesWalked.{Walking, walking_more, walking_room, sum_fits, walked_value, walked_wrote}
use Rattle.best_plan.proofs.HopelessLoses.{weighed, rest_less, limit_fits, limit_lost}
use Rattle.best_plan.proofs.PathOneStepOn.{state_here, Kept, back_none, kept_none, setting_kept, kept_kept, offered, setting_on, back_on, picked_value, picked_wrote}

-- Where two ways meet: what holds of the one that was taken holds.
pub same : (P : List ℕ → List ℤ → List ℕ → List ℕ → Walked → Type 0) {t t' : List ℕ} {g g' : List ℤ} {v v' c c' : List ℕ} {b b' : Walked}
    → t ≡ t' → g ≡ g' → v ≡ v' → c ≡ c' → b ≡ b' → P t' g' v' c' b' → P t g v c b
same P {t} {t'} {g} {g'} {v} {v'} {c} {c'} {b} et eg ev ec eb x =
    subst (λ z. P z g v c b) (sym et)
    (subst (λ z. P t' z v c b) (sym eg)
    (subst (λ z. P t' g' z c b) (sym ev)
    (subst (λ z. P t' g' v' z b) (sym ec) (subst (λ z. P t' g' v' c' z) (sym eb) x))))

-- ---- an outcome walked

-- The best plan below the outcome, and the buffers after the search for it.
pub record Below (least : Bool) (m q : Bytes) (start : ℕ) (cone : List ℕ) (h s k at : ℕ) (trail : List ℕ) (gains : List ℤ) (v choices trail' : List ℕ)
    (gains' : List ℤ) (v' choices' : List ℕ) (b : Walked) : Type 0 where
  pub picked : Picked least m (on_path m q start cone (take h trail)) s k at choices choices' b
  pub kept : Kept m q start cone h trail gains v choices trail' gains' v' choices'

module _ {m q : Bytes} {truth cone late : List ℕ} {start : ℕ} {trail₀ : List ℕ} {gains₀ : List ℤ} {v₀ choices₀ : List ℕ} {h s : ℕ} (k : ℕ)
    (S : Setting m q truth cone late start trail₀ gains₀ v₀ h s (k + 1)) {least : Bool} {a o at sum end : ℕ} {trail : List ℕ} {gains : List ℤ}
    {v choices : List ℕ} (K : Kept m q start cone h trail₀ gains₀ v₀ choices₀ trail gains v choices)
    (W : Walking least m s a k (on_path m q start cone (take h trail₀)) o at choices₀ choices sum end) (here : Offers m s a o) where
  pub step_asked : Ready m q start truth cone × Offered m start trail h s a o × Knows m q start cone (take h trail) gains v
  step_asked = let N = setting_kept S K in (N.ready, offered k N a o here, N.knows)

  pub pick_room : at + 6 * most_choices k ≤ length choices₀ → end + 3 * most_choices k ≤ length choices
  pick_room r = omega (arith, walking_room least m s a k _ o at sum end choices₀ choices W S.ready.prepared (state_here S) here, K.room)

  -- `rest` is what this outcome and those after it weigh.
  module _ (rest : ℕ) (left : rest + weighed m s a o ≡ denominator_of m) where
    pub hopeless_asked : (denominator_of m ≤ 100) × (k ≤ 6) × (sum + rest * denominator_of m ^ k < 2 ^ 64)
    hopeless_asked =
        let z = limit_fits S.ready.prepared s a (state_here S) here.0 least k (on_path m q start cone (take h trail₀)) (λ r. one_if_small _) o sum rest here.1 W.value left (omega (arith, S.few)) W.small in
        (z.0, omega (arith, S.few), z.1)

    -- The choice is given up.
    pub hopeless_cannot_win : (best : Option Walked) {r : Bool} → r ≡ not (wins best (best_left least (denominator_of m) k sum rest) least) → r ≡ true
        → Candidate best least m (on_path m q start cone (take h trail₀)) (row_in m s a) k at choices₀ choices (record { value = sum; end = end })
    hopeless_cannot_win best e g =
        let z = limit_lost S.ready.prepared s a (state_here S) here.0 least k (on_path m q start cone (take h trail₀)) (λ r. one_if_small _) o sum rest here.1 W.value left best (not_wins _ (sym e ∙ g)) in
        lost z.0 z.1 _ W.wrote
      where
        not_wins : (t : Bool) → not t ≡ true → t ≡ false
        not_wins true q = sym q
        not_wins false q = refl

    pub rest_after_outcome : (w : ℕ) → w ≡ (step_in m s a o).weight → (w ≤ rest) × (rest - w + weighed m s a (o + 1) ≡ denominator_of m)
    rest_after_outcome w e = rest_less S.ready.prepared s a (state_here S) here.0 o rest w here.1 left e

  pub last_room : k ≡ 1 → at + 6 * most_choices k ≤ length choices₀ → end + 3 * most_choices 1 ≤ length choices
  last_room e r = subst (λ j. end + 3 * most_choices j ≤ length choices) e (pick_room r)

  module _ {trail' : List ℕ} {gains' : List ℤ} {v' : List ℕ} {t : ℕ} (T : Stepped m q start cone h s a o trail trail' gains' v' t) where
    pub pick_setting : Setting m q truth cone late start trail' gains' v' (h + 1) t k
    pick_setting = setting_on k (setting_kept S K) a o here T

    pub last_setting : k ≡ 1 → Setting m q truth cone late start trail' gains' v' (h + 1) t 1
    last_setting e = subst (Setting m q truth cone late start trail' gains' v' (h + 1) t) e pick_setting

    -- Where one step was left, only the choices changed.
    pub below_last : {choices'' : List ℕ} {b : Walked} → k ≡ 1 → Picked least m (on_path m q start cone (take (h + 1) trail')) t 1 end choices choices'' b
        → length choices'' ≡ length choices → Below least m q start cone (h + 1) t k end trail' gains' v' choices trail' gains' v' choices'' b
    below_last {choices''} {b} e P ec =
        record {
          picked = subst (λ j. Picked least m (on_path m q start cone (take (h + 1) trail')) t j end choices choices'' b) (sym e) P;
          kept = record { back = back_none pick_setting; room = ec };
        }

    module _ {trail'' : List ℕ} {gains'' : List ℤ} {v'' choices'' : List ℕ} {b : Walked}
        (P : Below least m q start cone (h + 1) t k end trail' gains' v' choices trail'' gains'' v'' choices'' b) where
      abbrev N : Setting m q truth cone late start trail gains v h s (k + 1)
      N = setting_kept S K

      module _ (w : ℕ) (e : w ≡ (step_in m s a o).weight) where
        pub sum_with_outcome_fits : sum + w * b.value < 2 ^ 64
        sum_with_outcome_fits =
            sum_fits least m s a k (on_path m q start cone (take h trail₀)) S.ready.prepared (state_here S) (omega (arith, S.few)) (λ r. one_if_small _)
            o here at end b.end sum b.value choices₀ choices choices'' W (picked_value k N a o here T K.back.kept P.picked)
            (picked_wrote k N a o here T K.back.kept P.picked) w e

        pub one_outcome_more_walked : {x : ℕ} → x ≡ sum + w * b.value → Walking least m s a k (on_path m q start cone (take h trail₀)) (o + 1) at choices₀ choices'' x b.end
        one_outcome_more_walked g =
            subst (λ x. Walking least m s a k (on_path m q start cone (take h trail₀)) (o + 1) at choices₀ choices'' x b.end) (sym g)
            (walking_more least m s a k (on_path m q start cone (take h trail₀)) S.ready.prepared (state_here S) (omega (arith, S.few)) (λ r. one_if_small _)
            o here at end b.end sum b.value choices₀ choices choices'' W (picked_value k N a o here T K.back.kept P.picked)
            (picked_wrote k N a o here T K.back.kept P.picked) w e)

      pub buffers_kept_below : Kept m q start cone h trail₀ gains₀ v₀ choices₀ trail'' gains'' v'' choices''
      buffers_kept_below =
          kept_kept K (back_on k N a o here T P.kept.back) P.kept.room

-- All outcomes are walked, whatever the best so far is.
pub all_outcomes_walked : {least : Bool} {m : Bytes} {f : List Step → ℕ} {choices₀ choices : List ℕ} {s a o at sum end k : ℕ} → Walking least m s a k f o at choices₀ choices sum end
    → o ≡ outcomes_in m s a → {best : Option Walked} → Candidate best least m f (row_in m s a) k at choices₀ choices (record { value = sum; end = end })
all_outcomes_walked {least} {m} {f} {choices₀} {choices} {s} {a} {o} {at} {sum} {end} {k} W e =
    walked (record { value = walked_value least m s a k f o at sum end choices₀ choices W e; wrote = walked_wrote least m s a k f o at sum end choices₀ choices W e })

-- ---- a choice tried

-- Before the choice at place a is tried.
pub record ChoicesTried (least : Bool) (m q : Bytes) (start : ℕ) (cone : List ℕ) (h s k at : ℕ) (trail₀ : List ℕ) (gains₀ : List ℤ) (v₀ choices₀ : List ℕ) (a : ℕ)
    (trail : List ℕ) (gains : List ℤ) (v choices : List ℕ) (b : Option Walked) : Type 0 where
  pub tried : Tried least (model_in m) (k - 1) s (on_path m q start cone (take h trail₀)) (first m s a) at choices₀ choices b
  pub kept : Kept m q start cone h trail₀ gains₀ v₀ choices₀ trail gains v choices

module _ {m q : Bytes} {truth cone late : List ℕ} {start : ℕ} {trail₀ : List ℕ} {gains₀ : List ℤ} {v₀ : List ℕ} {h s k : ℕ}
    (S : Setting m q truth cone late start trail₀ gains₀ v₀ h s k) where
  pub no_choice_tried : {least : Bool} (at : ℕ) (choices : List ℕ)
      → ChoicesTried least m q start cone h s k at trail₀ gains₀ v₀ choices 0 trail₀ gains₀ v₀ choices None
  no_choice_tried {least} at choices = record { tried = tried_start least m (on_path m q start cone (take h trail₀)) s (k - 1) at choices; kept = kept_none S choices }

module _ {m q : Bytes} {truth cone late : List ℕ} {start : ℕ} {trail₀ : List ℕ} {gains₀ : List ℤ} {v₀ choices₀ : List ℕ} {h s k : ℕ}
    (S : Setting m q truth cone late start trail₀ gains₀ v₀ h s k) (some : k ≡ 0 → ⊥) {least : Bool} {a at : ℕ} {trail : List ℕ} {gains : List ℤ}
    {v choices : List ℕ} {b : Option Walked} (U : ChoicesTried least m q start cone h s k at trail₀ gains₀ v₀ choices₀ a trail gains v choices b) where
  abbrev f : List Step → ℕ
  f = on_path m q start cone (take h trail₀)

  one_less : suc (k - 1) ≡ k
  one_less = omega (arith, pos_of_ne-zero some)

  -- There is room for a choice, and for the search below it.
  pub walk_room : at + 3 * most_choices k ≤ length choices₀ → (end_of at b < length choices) × (end_of at b + 1 + 6 * most_choices (k - 1) ≤ length choices)
  walk_room r =
      let n = tried_room least m f s (k - 1) S.ready.prepared (state_here S) at choices₀ choices b (first m s a) U.tried in
      let e : most_choices (suc (k - 1)) ≡ most_choices k = ap most_choices one_less in
      let z = most_choices_step k some in
      (omega (arith, U.kept.room), omega (arith, U.kept.room))

  pub walk_setting : Setting m q truth cone late start trail gains v h s (k - 1 + 1)
  walk_setting = let e : k - 1 + 1 ≡ k = omega (arith, one_less) in rw e (setting_kept S U.kept)

  -- All are tried.
  pub all_choices_tried : a ≡ choices_in m s → {x : Walked} → b ≡ Some x → Picked least m f s k at choices₀ choices x
  all_choices_tried e {x} g =
      subst (λ j. Picked least m f s j at choices₀ choices x) one_less
      (picked_all least m f s (k - 1) S.ready.prepared (state_here S) at choices₀ choices x
      (subst (Tried least (model_in m) (k - 1) s f (first m s (choices_in m s)) at choices₀ choices) g
      (subst (λ n. Tried least (model_in m) (k - 1) s f (first m s n) at choices₀ choices b) e U.tried)))

  -- So there is a best.
  pub best_there : a ≡ choices_in m s → (b ≡ None → ⊥)
  best_there e =
      some_best least m f s (k - 1) S.ready.prepared (state_here S)
      (subst (λ n. Tried least (model_in m) (k - 1) s f (first m s n) at choices₀ choices b) e U.tried)

  -- The choice c at place a, walked.
  module _ (fits : at + 3 * most_choices k ≤ length choices₀) (place : a < choices_in m s) {c from : ℕ} (e : c ≡ choice_in m s a) (behind : from ≡ end_of at b) {choices' : List ℕ} {w : Walked}
      (W : Candidate b least m (on_path m q start cone (take h trail)) (row_in m s a) (k - 1) (from + 1) (set choices from c) choices' w) where
    candidate_here : Candidate b least m f (row_in m s a) (k - 1) (end_of at b + 1) (set choices (end_of at b) (choice_in m s a)) choices' w
    candidate_here =
        subst (λ t. Candidate b least m (on_path m q start cone t) (row_in m s a) (k - 1) (end_of at b + 1) (set choices (end_of at b) (choice_in m s a)) choices' w)
        U.kept.back.kept
        (subst (λ n. Candidate b least m (on_path m q start cone (take h trail)) (row_in m s a) (k - 1) (n + 1) (set choices n (choice_in m s a)) choices' w) behind
        (subst (λ c. Candidate b least m (on_path m q start cone (take h trail)) (row_in m s a) (k - 1) (from + 1) (set choices from c) choices' w) e W))

    pub keep_asked : (at ≤ end_of at b) × (end_of at b ≤ w.end) × (w.end ≤ length choices')
    keep_asked = keeps_inside least m f s (k - 1) S.ready.prepared (state_here S) a place at choices₀ choices choices' b w (omega arith) (walk_room fits).0 U.tried candidate_here

    pub one_choice_more_tried : {trail' : List ℕ} {gains' : List ℤ} {v' choices'' : List ℕ} {r : Walked} → Back m q start cone h trail trail' gains' v' → Keeps b w at least choices' choices'' r
        → length choices'' ≡ length (set choices from c) → ChoicesTried least m q start cone h s k at trail₀ gains₀ v₀ choices₀ (a + 1) trail' gains' v' choices'' (Some r)
    one_choice_more_tried {choices'' = choices''} {r} B J n =
        record {
          tried =
              turn_taken least m f s (k - 1) S.ready.prepared (state_here S) a place at choices₀ choices choices' b w (omega arith) (walk_room fits).0 U.tried candidate_here choices''
              r J;
          kept = kept_kept U.kept B (n ∙ length-set choices from c);
        }

-- ---- from the start

-- What the marks of the last step ask.
pub late_asked : {m q : Bytes} {start : ℕ} {truth cone : List ℕ} → Ready m q start truth cone → 0 < length cone → Deep q × Cone q cone × (0 < length cone)
late_asked R some = (record { few = R.nodes.formed.few_nodes; deep = R.nodes.deep }, R.ordered, some)

pub setting_start : {m q : Bytes} {truth cone late : List ℕ} {start d : ℕ} {trail : List ℕ} {gains : List ℤ} {v' : List ℕ}
    → Ready m q start truth cone → Late q cone late → (v : List ℕ) → d ≡ depth (formula q (root_of cone)) → d ≤ 6 → length gains ≡ 7 → length v ≡ 280 → get_or gains 0 (pos 0) ≡ pos 0
    → v' ≡ learnt q truth trail gains 0 start cone v → Setting m q truth cone late start trail gains v' 0 start d
unfolding state_after
setting_start {trail = trail} {gains} {v'} R L v e h z n g k =
    record {
      ready = R;
      marked = L;
      whole = refl;
      knows = begun R trail gains v v' g z n k;
      state = refl;
      deep = omega arith;
      few = omega arith;
    }

pub found : {m q : Bytes} {start d : ℕ} {cone before after : List ℕ} {least : Bool} {b : Walked} → Prepared m → d ≤ 6
    → Picked least m (on_path m q start cone []) start d 0 before after b → Finds least m q start cone d after (record { value = b.value; count = b.end })
unfolding steps_of best_choices
found {m} {q} {start} {d} {cone} {least = least} w h P =
    record {
      value = P.value;
      chosen = P.wrote.wrote;
      few = omega (arith, P.wrote.next, choices_few w least d start (on_path m q start cone []), most_choices_6 d h);
    }
