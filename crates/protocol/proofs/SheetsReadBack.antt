-- A plan's sheet is read back from the bytes written of it: an accepted question asks for 1 to 6 steps, a choice in an accepted model has
-- at most 4 outcomes, so that a plan has 1 to 1,365 choices; and a total is at most 6,000 times D to the n, below 2 to the 63. The bytes are
-- bytes: states are below 32, choices below 256.
use Prim.Native.Nat.{ℕ, zero, suc, ◌*◌, ◌-◌, ◌^◌, ◌≤◌, ◌<◌}
use native.Mathlib.Omega.{arith}
use native.Mathlib.Nat.{le_refl, le_trans, lt_of_le_of_lt, suc-mul, mul-le-mul, mul-le-mul_left, mul-le-mul_right, pow-le-pow_left, pow-le-pow_right}
use mathlib.Core.Path.{◌≡◌, refl, sym, ap, subst, ◌∙◌}
use mathlib.Core.Bool.{Bool, true, false, false≢true}
use mathlib.Core.Logic.{⊎_elim}
use mathlib.Core.List.Memᴰ
use mathlib.Core.List.{List, [], ◌∷◌, flat_map, Memᴰ}
use lib.Dec.{lit<}
use lib.IntN.{ℤ, pos, negsuc, nat_abs}
use lib.ListN.{length, get_or, length-append}
use lib.Signed.{mag}
use Rattle.logic.specs.Checked.{ok}
use Rattle.logic.specs.promises.Refusal.{refusal}
use Rattle.logic.specs.Model.{Model, silent, outcomes}
use Rattle.logic.specs.Plan.{Plan, plans, choices, Match, ends, pair}
use Rattle.logic.specs.Accepted.{Accepted}
use Rattle.logic.specs.Order.{IsPlan}
use Rattle.logic.specs.Formula.{Formula, never, on_bound}
use Rattle.logic.specs.promises.Raised.{ModestRewards}
use Rattle.logic.proofs.Checked.{ok_same}
use Rattle.logic.proofs.Dictionary.{plans_are}
use Rattle.logic.proofs.TotalsSmall.{goal_small}
use Rattle.blocks.specs.Bytes.{Bytes}
use Rattle.models.specs.Layout.{model_of}
use Rattle.models.specs.Grounds.{read_model}
use Rattle.models.proofs.EveryCell.{sizes}
use Rattle.models.proofs.GroundsPassed.{passed_all, read_passed}
use Rattle.models.proofs.Readable.{readable}
use Rattle.models.proofs.OutcomesOfCell.{outcomes_few as models_few}
use Rattle.models.proofs.ModelOfBytes.{accepted, states_held}
use Rattle.models.proofs.ModestRewards.{modest_rewards}
use Rattle.questions.specs.Layout.{node_of, node_count, formulas_of, question_of}
use Rattle.questions.specs.Grounds.{read_question}
use Rattle.questions.specs.promises.Formed.{Formed, sets_bound}
use Rattle.questions.proofs.SetsBound.{sets_which, sets_neither, bound_compares}
use Rattle.questions.proofs.AcceptedFacts as questions
use Rattle.logic.specs.promises.MostChoices.{most_choices}
use Rattle.logic.proofs.MostChoices.{most_choices_6, some_choice}
use Rattle.sheets.proofs.ReadsBack.{reads_back}
use Rattle.sheets.proofs.BytesWritten.{sheet_small}
use Rattle.protocol.specs.Calls.{Call, Held, Reply, yields}
use Rattle.protocol.specs.History.{after}
use Rattle.protocol.specs.Replies.{Session}
use Rattle.protocol.specs.Demand3.{PlanQuestion, Demand3, Demand3Always}
use Rattle.protocol.proofs.AfterEachCall.{Sound, sound}
use Rattle.protocol.proofs.HeldAccepted as held
use Rattle.protocol.proofs.TotalsByRoot.{Root, root_of}
use Rattle.protocol.proofs.Demand3.{ReadsBack, demand_3}
use Rattle.logic.proofs.SilentMove.{action_below, choice_kind}
use Rattle.questions.proofs.FormulaByOperator.{no_plan_at}

-- ---- how many choices

each_few : {A B : Type 0} {R : A → B → Type 0} (key : B → List ℕ) (k : ℕ) → ((x : A) (y : B) → R x y → length (key y) ≤ k)
    → {l : List A} {ys : List B} → Match R l ys → length (flat_map key ys) ≤ length l * k
unfolding flat_map
each_few key k h ends = omega arith
each_few key k h (pair {x} {y} {xs} {ys} r t) =
    let i = each_few key k h t in
    let j = h x y r in
    simp length-append (omega (arith, suc-mul (length xs) k))

few_choices : (m : Model) → ((s a : ℕ) → length (outcomes m s a) ≤ 4) → (n s : ℕ) (π : Plan n) → IsPlan m n s π → length (choices n π) ≤ most_choices n
unfolding choices most_choices
few_choices m few zero s π h = le_refl 0
few_choices m few (suc n) s π h =
    let e = each_few (choices n) (most_choices n) (λ o q i. few_choices m few n o.target q i) h.1 in
    let f = mul-le-mul_right (most_choices n) (few s π.0) in
    omega arith

-- ---- which choices

each_member : {A B : Type 0} {R : A → B → Type 0} (key : B → List ℕ) (k : ℕ) {c : ℕ} → ((x : A) (y : B) → R x y → Memᴰ c (key y) → c < k)
    → {l : List A} {ys : List B} → Match R l ys → Memᴰ c (flat_map key ys) → c < k
unfolding flat_map
each_member key k h ends i = absurd (Memᴰ.not-nil i)
each_member key k h (pair {x} {y} r t) i = ⊎_elim (λ j. h x y r j) (λ j. each_member key k h t j) (Memᴰ.append_cases (key y) i)

-- Each choice of a plan is a byte: an action of the model, or the silent move.
choice_byte : (m : Model) → length m.actions ≤ silent → (n s : ℕ) (π : Plan n) → IsPlan m n s π → {c : ℕ} → Memᴰ c (choices n π) → c < 256
unfolding choices
choice_byte m few zero s π h i = absurd (Memᴰ.not-nil i)
choice_byte m few (suc n) s π h {c} i =
    ⊎_elim
    (λ e.
    subst (λ a. a < 256) (sym e)
    (⊎_elim (λ x. omega (arith, action_below m s x)) (λ x. omega (arith, x.1)) (choice_kind m s h.0)))
    (λ j. each_member (choices n) 256 (λ o q g k. choice_byte m few n o.target q g k) h.1 j)
    (Memᴰ.cases_cons i)

small_at : (l : List ℕ) → ((c : ℕ) → Memᴰ c l → c < 256) → (i : ℕ) → get_or l i 0 < 256
small_at [] h i = omega arith
small_at (x ∷ l) h zero = h x (Memᴰ.head refl)
small_at (x ∷ l) h (suc i) = small_at l (λ c j. h c (Memᴰ.tail j)) i

-- ---- the steps that an accepted question asks for

sets : Formula → Bool
sets φ = on_bound false (λ n r. true) φ

steps : Formula → ℕ
steps φ = on_bound 0 (λ n r. n) φ

module _ (S A N : ℕ) (c : Bytes) (a : Formed S A N c) (i : ℕ) (h : i < node_count c) (e : sets (get_or (formulas_of c) i never) ≡ true) where
  bound_operator : sets_bound (node_of c i).operator ≡ true
  unfolding sets
  bound_operator = go (sets_bound (node_of c i).operator) refl
    where
      go : (t : Bool) → sets_bound (node_of c i).operator ≡ t → t ≡ true
      go true o = refl
      go false o = let w = sets_neither (node_of c i).operator o in
          absurd (false≢true (sym (no_plan_at c i h w.0 w.1 false (λ n ψ r p q. true) (λ n l u r p q. true)) ∙ e))

  bound_steps : (1 ≤ steps (get_or (formulas_of c) i never)) × (steps (get_or (formulas_of c) i never) ≤ 6)
  unfolding steps
  bound_steps =
      let r = bound_compares (a.in_range i h) bound_operator in
      subst (λ n. (1 ≤ n) × (n ≤ 6))
      (⊎_elim (λ o. ap steps (sym (questions.at_plan S A N c a i h o))) (λ o. ap steps (sym (questions.at_earns S A N c a i h o))) (sets_which (node_of c i).operator bound_operator))
      (r.some_step, r.few_steps)

-- ---- the whole

mag_small : (z : ℤ) → mag z ≤ nat_abs z
mag_small (pos k) = omega arith
mag_small (negsuc k) = omega arith

module _ {h : Held} (sound_held : Sound h) (x : PlanQuestion h) where
  abbrev s : ℕ
  s = x.question.start

  abbrev n : ℕ
  n = x.asked.steps

  root : Root x.model s x.question.root x.asked
  root = root_of x.model s x.question.root x.asked x.plan_root

  -- The bytes that the held model and question were read from.
  abbrev b : Bytes
  b = h.blocks

  model_read : read_model b ≡ ok x.model
  model_read = sound_held.model_read x.model x.held_model

  passed : refusal (read_model b) ≡ 0
  passed = ap refusal model_read

  same_model : x.model ≡ model_of b
  same_model = ok_same (sym model_read ∙ read_passed b (passed_all b passed))

  question_bytes : (c : Bytes) × (read_question (length x.model.states) (length x.model.actions) x.model.propositions c ≡ ok x.question)
  question_bytes = sound_held.question_read x.model x.question x.held_model x.held_question

  abbrev c : Bytes
  c = question_bytes.0

  asked : questions.Accepted (length x.model.states) (length x.model.actions) x.model.propositions c
  asked = questions.accepted (length x.model.states) (length x.model.actions) x.model.propositions c (ap refusal question_bytes.1)

  same_question : x.question ≡ question_of c
  same_question = ok_same (sym question_bytes.1 ∙ asked.read)

  last_node : node_count c - 1 < node_count c
  last_node = omega (arith, asked.formed.some_node)

  same_root : get_or (formulas_of c) (node_count c - 1) never ≡ x.question.root
  unfolding question_of
  same_root = sym (ap (λ q. q.root) same_question)

  steps_asked : (1 ≤ n) × (n ≤ 6)
  unfolding steps sets
  steps_asked =
      subst (λ n. (1 ≤ n) × (n ≤ 6)) (ap steps same_root ∙ root.steps)
      (bound_steps (length x.model.states) (length x.model.actions) x.model.propositions c asked.formed (node_count c - 1) last_node
      (ap sets same_root ∙ root.bounded))

  start_inside : s < length x.model.states
  start_inside = held.start_inside sound_held x.model x.held_model x.question x.held_question

  outcomes_few : (t a : ℕ) → length (outcomes x.model t a) ≤ 4
  outcomes_few t a =
      subst (λ m. length (outcomes m t a) ≤ 4) (sym same_model) (models_few b (readable b passed) t a)

  denominator_few : x.model.denominator ≤ 100
  unfolding model_of
  denominator_few = subst (λ m. m.denominator ≤ 100) (sym same_model) (sizes b (passed_all b passed).sizes).parts

  start_few : s < 256
  start_few =
      let n = subst (λ m. s < length m.states) same_model start_inside in
      omega (arith, states_held b, (sizes b (passed_all b passed).sizes).states, n)

  accepted_model : Accepted x.model
  accepted_model = subst Accepted (sym same_model) (accepted b (passed_all b passed))

  modest : ModestRewards x.model
  modest = subst ModestRewards (sym same_model) (modest_rewards b (passed_all b passed))

  module _ (π : Plan (n)) (i : Memᴰ π (plans x.model (n) s)) where
    choices_few : length (choices (n) π) ≤ 1365
    choices_few = le_trans (few_choices x.model outcomes_few (n) s π ((plans_are x.model (n) s π).0 i)) (most_choices_6 (n) steps_asked.1)

    choices_small : (k : ℕ) → get_or (choices (n) π) k 0 < 256
    choices_small =
        small_at (choices (n) π) (λ c j. choice_byte x.model accepted_model.numbered (n) s π ((plans_are x.model (n) s π).0 i) j)

    total_few : mag (x.asked.total π) < 2 ^ 63
    total_few =
        let k = goal_small x.model accepted_model modest s start_inside x.question.root x.asked x.plan_root steps_asked.0 π i in
        let d : x.model.denominator ^ n ≤ 100 ^ 6 = le_trans (pow-le-pow_left denominator_few n) (pow-le-pow_right (lit< tt) steps_asked.1) in
        lt_of_le_of_lt (le_trans (mag_small (x.asked.total π)) (le_trans k (mul-le-mul (mul-le-mul_left 1000 steps_asked.1) d))) (lit< tt)

    reads_whole : ReadsBack x.question x.asked (record { weight = x.asked.total π; choices = choices n π })
    reads_whole =
        let w : ℤ = x.asked.total π in
        record {
          sheet = reads_back n s w (choices n π) total_few (some_choice n π steps_asked.0) choices_few;
          bytes = (sheet_small n s w (choices n π) (omega (arith, steps_asked.1)) start_few choices_few (record { below = choices_small })).below;
        }

  pub demand_3_held : (reply : Call → Reply) → ((c : Call) → reply c ≡ yields h c) → Demand3 reply x
  demand_3_held reply yielding = demand_3 reply yielding x sound_held reads_whole total_few

pub demand_3_always : (session : Session) → ((calls : List Call) (c : Call) → session calls c ≡ yields (after calls) c) → Demand3Always session
demand_3_always session yielding calls x = demand_3_held (sound calls) x (session calls) (yielding calls)
