-- What each operator computes of its children's values is its meaning on the path: an induction over the nodes of a cone, children first.
use Prim.Native.Nat.{ℕ, suc, ◌+◌, ◌*◌, ◌-◌, ◌/◌, ◌%◌, ◌≤◌, ◌<◌}
use native.Mathlib.Omega.{arith}
use native.Mathlib.Nat.{le-max_left, le-max_right}
use native.Mathlib.Numerals.{add-one}
use native.Mathlib.Decide.{ℕ_discrete}
use mathlib.Core.Path.{◌≡◌, refl, sym, ap, ap₂, subst, ◌∙◌}
use mathlib.Core.Bool.{Bool, true, false, not, ◌&&◌}
use mathlib.Core.List.{List, [], ◌∷◌, ◌++◌}
use lib.Bits.{bit_and}
use lib.Dec.{eqb}
use lib.IntN.{ℤ, pos, ◌+ℤ◌, ◌-ℤ◌, +ℤ_assoc, +ℤ_idl}
use lib.ListN.{length, get_or, take, drop, length-drop, take-append-drop, drop_of_length-le}
use lib.Seq.{take_all, drop-cons, get_or-take}
use Rattle.logic.specs.Model.{Step}
use Rattle.logic.specs.Quantity.{integers, sum, related}
use Rattle.logic.specs.Formula.{Formula, Node, does, next, sat, depth, relation}
use Rattle.logic.specs.Bound.{one_if}
use Rattle.logic.specs.promises.Total.{value_of}
use Rattle.blocks.specs.Bytes.{Bytes, byte}
use Rattle.models.specs.Layout.{state_count, action_count, prop_count}
use Rattle.prepared_model.specs.promises.Rows.{model_in}
use Rattle.questions.specs.Layout.{node_count, node_of}
use Rattle.questions.proofs.TableNodeByNode.{by_operator}
use Rattle.questions.specs.promises.Formed.{Formed}
use Rattle.questions.proofs.AcceptedFacts as questions
use Rattle.prepared_question.specs.promises.Nodes.{formula, reads_left}
use Rattle.evaluation.specs.promises.Path.{step_of, steps_of, state_after, Trail, gain_of}
use Rattle.evaluation.specs.promises.Reached.{Reached, under_not, and_left, and_right, under_next, Earlier, root_of, Ready}
use Rattle.evaluation.specs.promises.Learnt.{known, gained, value_by, value_at}
use Rattle.evaluation.specs.promises.Known.{Known, Gained}
use Rattle.evaluation.proofs.Integers.{rest_of_sum}
use Rattle.evaluation.proofs.LearntInOrder.{state_value, path_value}
use Rattle.evaluation.proofs.Trails.{steps_length, steps_drop, state_next, takes_at}

pub flipped : (t : Bool) → one_if (eqb (one_if t) 0) ≡ one_if (not t)
unfolding one_if
flipped true = refl
flipped false = refl

pub joined : (t u : Bool) → bit_and (one_if t) (one_if u) ≡ one_if (t && u)
unfolding one_if
joined true true = refl
joined true false = refl
joined false true = refl
joined false false = refl

pub gain_append : (r l : List Step) → gain_of (r ++ l) ≡ gain_of r +ℤ gain_of l
unfolding sum
gain_append [] l = sym (+ℤ_idl (gain_of l))
gain_append (o ∷ r) l = ap (λ z. o.reward +ℤ z) (gain_append r l) ∙ sym (+ℤ_assoc o.reward (gain_of r) (gain_of l))

module _ {m q : Bytes} {s : ℕ} {truth cone : List ℕ} (ready : Ready m q s truth cone) (t : List ℕ) where
  -- The state at a place of the path, the steps from it on, and a node's value there.
  abbrev at : ℕ → ℕ
  at k = state_after m s (take k t)

  abbrev from : ℕ → List Step
  from k = drop k (steps_of m s t)

  abbrev pub Needed : ℕ → ℕ → Type 0
  Needed j k = Reached m q (root_of cone) s j (at k)

  abbrev pub meaning : ℕ → ℕ → ℕ
  meaning j k = value_of (model_in m) (formula q j) (at k) (from k)

  abbrev node : ℕ → ℕ
  node i = get_or cone i 0

  first_step : (k : ℕ) → k < length t → from k ≡ step_of m (at k) (get_or t k 0) ∷ from (suc k)
  unfolding steps_of
  first_step k l =
      steps_drop m s k t
      ∙ ap (steps_of m (at k)) (drop-cons t k 0 l)
      ∙ ap (λ r. step_of m (at k) (get_or t k 0) ∷ r) (sym (steps_drop m s (suc k) t ∙ ap (λ x. steps_of m x (drop (suc k) t)) (state_next m s k t l)))

  child_known : (i k j : ℕ) (v : List ℕ) → i < length cone → Known m q s cone t i v → Earlier cone i j → k + depth (formula q j) ≤ length t → Needed j k
      → known v j k ≡ meaning j k
  child_known i k j v l K e d r =
      subst (λ x. k + depth (formula q x) ≤ length t → Needed x k → known v x k ≡ meaning x k) e.2
      (λ d r. K.right e.0 k (omega (arith, e.1)) d (λ z. e.1) r) d r

  abbrev asked : Formed (state_count m) (action_count m) (prop_count m) q
  asked = ready.nodes.formed

  module _ (trail : List ℕ) (prefix : t ≡ take (length t) trail) (gains : List ℤ) (followed : Trail m s t) (summed : Gained m s t gains) where
    -- Node j at the place where the last step makes its value known, by its operator and its children's values.
    module _ (j k : ℕ) (inside : j < node_count q) (level : k + depth (formula q j) ≡ length t) where
      abbrev x : Node
      x = node_of q j

      abbrev same : {φ : Formula} → formula q j ≡ φ → value_of (model_in m) φ (at k) (from k) ≡ meaning j k
      same f = ap (λ φ. value_of (model_in m) φ (at k) (from k)) (sym f)

      pub not_level : x.operator ≡ 3 → k + depth (formula q x.left) ≡ length t
      unfolding depth
      not_level e = omega (arith, ap depth (questions.at_neg (state_count m) (action_count m) (prop_count m) q asked j inside e))

      pub not_means : x.operator ≡ 3 → (y : ℕ) → y ≡ meaning x.left k → one_if (eqb y 0) ≡ meaning j k
      unfolding sat
      not_means e y h =
          ap (λ z. one_if (eqb z 0)) h
          ∙ flipped (sat (model_in m) (formula q x.left) (at k) (from k))
          ∙ same (questions.at_neg (state_count m) (action_count m) (prop_count m) q asked j inside e)

      pub and_level : x.operator ≡ 4 → (k + depth (formula q x.left) ≤ length t) × (k + depth (formula q x.right) ≤ length t)
      unfolding depth
      and_level e =
          let f = questions.at_both (state_count m) (action_count m) (prop_count m) q asked j inside e in
          let dl = depth (formula q x.left) in
          let dr = depth (formula q x.right) in
          (omega (arith, ap depth f, le-max_left dl dr), omega (arith, ap depth f, le-max_right dl dr))

      pub and_means : x.operator ≡ 4 → (y z : ℕ) → y ≡ meaning x.left k → z ≡ meaning x.right k → bit_and y z ≡ meaning j k
      unfolding sat
      and_means e y z g h =
          ap₂ bit_and g h
          ∙ joined (sat (model_in m) (formula q x.left) (at k) (from k)) (sat (model_in m) (formula q x.right) (at k) (from k))
          ∙ same (questions.at_both (state_count m) (action_count m) (prop_count m) q asked j inside e)

      pub do_level : x.operator ≡ 5 → k + 1 ≡ length t
      unfolding depth
      do_level e = omega (arith, ap depth (questions.at_does (state_count m) (action_count m) (prop_count m) q asked j inside e))

      pub do_means : x.operator ≡ 5 → one_if (eqb (byte trail k / 32) x.left) ≡ meaning j k
      unfolding sat step_of
      do_means e =
          let f = questions.at_does (state_count m) (action_count m) (prop_count m) q asked j inside e in
          let h : k < length t = omega (arith, do_level e) in
          ap (λ y. one_if (eqb (y / 32) x.left)) (sym (get_or-take (length t) trail k 0 h) ∙ ap (λ z. get_or z k 0) (sym prefix))
          ∙ ap (λ y. one_if (eqb y x.left)) (takes_at m followed k h).named
          ∙ ap (λ z. value_of (model_in m) (does x.left) (at k) z) (sym (first_step k h))
          ∙ same f

      pub next_level : x.operator ≡ 6 → (k < length t) × (suc k + depth (formula q x.left) ≡ length t)
      unfolding depth
      next_level e =
          let f = questions.at_next (state_count m) (action_count m) (prop_count m) q asked j inside e in
          (omega (arith, ap depth f), omega (arith, ap depth f))

      pub next_needed : x.operator ≡ 6 → Needed j k → Needed x.left (suc k)
      unfolding step_of
      next_needed e r =
          let h = (next_level e).0 in
          let b = get_or t k 0 in
          subst (Reached m q (root_of cone) s x.left) (sym (state_next m s k t h)) (under_next (b % 32 / 4) (b % 4) r e (takes_at m followed k h).offers)

      pub next_means : x.operator ≡ 6 → (y : ℕ) → y ≡ meaning x.left (suc k) → y ≡ meaning j k
      unfolding sat step_of
      next_means e y g =
          let h = (next_level e).0 in
          g
          ∙ ap (λ y. value_of (model_in m) (formula q x.left) y (from (suc k))) (state_next m s k t h)
          ∙ ap (λ z. value_of (model_in m) (next (formula q x.left)) (at k) z) (sym (first_step k h))
          ∙ same (questions.at_next (state_count m) (action_count m) (prop_count m) q asked j inside e)

      pub gain_means : x.operator ≡ 7 → one_if (gained q gains (length t) k j) ≡ meaning j k
      unfolding sat depth gained
      gain_means e =
          let f = questions.at_gain (state_count m) (action_count m) (prop_count m) q asked j inside e in
          let n : k + x.n ≡ length t = omega (arith, ap depth f) in
          let R = steps_of m s t in
          let z : length R ≡ length t = steps_length m s t in
          let all : gain_of (take (length t) R) ≡ gain_of (take k R) +ℤ gain_of (from k) =
          ap gain_of (take_all (length t) R (omega arith) ∙ sym (take-append-drop k R)) ∙ gain_append (take k R) (from k) in
          let g : get_or gains (length t) (pos 0) -ℤ get_or gains k (pos 0) ≡ gain_of (take x.n (from k)) =
          ap₂ ◌-ℤ◌ (summed.right (length t) (omega arith) ∙ all) (summed.right k (omega arith))
          ∙ rest_of_sum (gain_of (take k R)) (gain_of (from k))
          ∙ ap gain_of (sym (take_all x.n (from k) (omega (arith, length-drop k R)))) in
          ap (λ y. one_if (related integers (relation x.right) y x.p)) g ∙ same f

      -- The other operators make state formulas.
      pub flat : {A : Type 0} → (depth (formula q j) ≡ 0 → ⊥) → {φ : Formula} → formula q j ≡ φ → depth φ ≡ 0 → A
      flat path f d = absurd (path (ap depth f ∙ d))

      -- By the operator of a node that looks at steps.
      pub by_path : (P : ℕ → Type 0) → (depth (formula q j) ≡ 0 → ⊥) → (x.operator ≡ 3 → P 3) → (x.operator ≡ 4 → P 4) → (x.operator ≡ 5 → P 5)
          → (x.operator ≡ 6 → P 6) → (x.operator ≡ 7 → P 7) → P x.operator
      unfolding depth
      by_path P path n a d f g =
          let S = state_count m in
          let A = action_count m in
          let N = prop_count m in
          let range = asked.in_range j inside in
          by_operator (λ op. x.operator ≡ op → P op) (λ e. absurd (omega (arith, range.operator_from)))
          (λ e. flat path (questions.at_never S A N q asked j inside e) refl)
          (λ e. flat path (questions.at_prop S A N q asked j inside e) refl)
          n a d f g
          (λ e. flat path (questions.at_plan S A N q asked j inside e) refl)
          (λ e. flat path (questions.at_earns S A N q asked j inside e) refl)
          (λ n e. absurd (omega (arith, range.operator_to)))
          x.operator refl

    -- At the place i of the cone, a node that looks at steps: `learn` computes its meaning.
    module _ (i k : ℕ) (v : List ℕ) (l : i < length cone) (K : Known m q s cone t i v) (level : k + depth (formula q (node i)) ≡ length t)
        (path : depth (formula q (node i)) ≡ 0 → ⊥) (r : Needed (node i) k) where
      abbrev y : Node
      y = node_of q (node i)

      inside : node i < node_count q
      inside = ready.ordered.nodes i l

      left : (op : ℕ) → y.operator ≡ op → reads_left op ≡ true → Earlier cone i y.left
      left op e h = ready.ordered.lefts i l path (ap reads_left e ∙ h)

      of_path : value_by q trail gains (length t) k (node i) y.operator v ≡ meaning (node i) k
      unfolding value_by reads_left
      of_path =
          by_path (node i) k inside level (λ op. value_by q trail gains (length t) k (node i) op v ≡ meaning (node i) k) path
          (λ e. not_means (node i) k inside level e (known v y.left k) (child_known i k y.left v l K (left 3 e refl) (omega (arith, not_level (node i) k inside level e)) (under_not r e)))
          (λ e.
          let d = and_level (node i) k inside level e in
          and_means (node i) k inside level e (known v y.left k) (known v y.right k) (child_known i k y.left v l K (left 4 e refl) d.0 (and_left r e))
          (child_known i k y.right v l K (ready.ordered.rights i l path e) d.1 (and_right r e)))
          (do_means (node i) k inside level)
          (λ e.
          let d = (next_level (node i) k inside level e).1 in
          next_means (node i) k inside level e (known v y.left (k + 1))
          (ap (known v y.left) (add-one k) ∙ child_known i (suc k) y.left v l K (left 6 e refl) (omega arith) (next_needed (node i) k inside level e r)))
          (gain_means (node i) k inside level)

    -- Any node, in the state reached.
    pub of_node : (i k : ℕ) (v : List ℕ) → i < length cone → Known m q s cone t i v → k + depth (formula q (node i)) ≡ length t → Needed (node i) k
        → value_at q truth trail gains (length t) (state_after m s t) (depth (formula q (node i))) (node i) v ≡ meaning (node i) k
    of_node i k v l K level r = go (ℕ_discrete (depth (formula q (node i))) 0)
      where
        go : Dec (depth (formula q (node i)) ≡ 0)
            → value_at q truth trail gains (length t) (state_after m s t) (depth (formula q (node i))) (node i) v ≡ meaning (node i) k
        go (yes e) =
            let n : k ≡ length t = omega arith in
            let a : at k ≡ state_after m s t = ap (state_after m s) (take_all k t (omega arith)) in
            let b : from k ≡ [] = drop_of_length-le (steps_of m s t) {i = k} (omega (arith, steps_length m s t)) in
            state_value q truth trail gains (length t) (state_after m s t) (depth (formula q (node i))) (node i) v e
            ∙ ap (λ y. byte truth (32 * node i + y)) (sym a)
            ∙ ready.truth_right (omega arith) (node i) (at k) r e
            ∙ ap (value_of (model_in m) (formula q (node i)) (at k)) (sym b)
        go (no f) =
            let n : length t - depth (formula q (node i)) ≡ k = omega arith in
            path_value q truth trail gains (length t) (state_after m s t) (depth (formula q (node i))) (node i) v f
            ∙ ap (λ y. value_by q trail gains (length t) y (node i) (node_of q (node i)).operator v) n
            ∙ of_path i k v l K level f r
