-- `learn` makes known what the last step makes known, and a longer path keeps what a shorter one made known, since no node looks further
-- than its depth.
use Prim.Native.Nat.{ℕ, zero, suc, ◌+◌, ◌*◌, ◌-◌, ◌≤◌, ◌<◌}
use native.Mathlib.Omega.{arith}
use native.Mathlib.Numerals.{add-one}
use native.Mathlib.Decide.{ℕ_discrete, dec_lt}
use mathlib.Core.Path.{◌≡◌, refl, sym, ap, ap₂, subst, ◌∙◌}
use mathlib.Core.List.{List, [], ◌∷◌, ◌++◌}
use lib.IntN.{ℤ, pos, ◌+ℤ◌, +ℤ_idr}
use lib.ListN.{length, get_or, set, take, drop, length-append, length-drop}
use lib.Seq.{take_all, take-length, take-append-le, drop-append-le, get_or-set_same, get_or-set_other}
use Rattle.logic.specs.Formula.{depth}
use Rattle.logic.specs.Bound.{one_if}
use Rattle.logic.specs.promises.Total.{value_of}
use Rattle.logic.specs.Quantity.{sum}
use Rattle.logic.proofs.Depth.{sat_same}
use Rattle.blocks.specs.Bytes.{Bytes}
use Rattle.prepared_model.specs.promises.Rows.{model_in}
use Rattle.prepared_question.specs.promises.Nodes.{formula, depth_in}
use Rattle.evaluation.specs.promises.Path.{step_of, steps_of, state_after, Trail, gain_of}
use Rattle.evaluation.specs.promises.Reached.{Reached, root_of, Ready}
use Rattle.evaluation.specs.promises.Learnt.{known, value_at, learn_node, learnt, Below40}
use Rattle.evaluation.specs.promises.Known.{Known, Gained, Knows}
use Rattle.evaluation.proofs.LearntInOrder.{learn_now, learn_later, learnt_more, learnt_length}
use Rattle.evaluation.proofs.Trails.{steps_length, steps_append, trail_shorter}
use Rattle.evaluation.proofs.OperatorMeaning.{gain_append, Needed, meaning, of_node}

module _ {m q : Bytes} {s : ℕ} {truth cone : List ℕ} (ready : Ready m q s truth cone) where
  pub cone_node : Below40 cone
  cone_node i l = omega (arith, ready.nodes.formed.few_nodes, ready.ordered.nodes i l)

  pub depth_is : (i : ℕ) → i < length cone → depth (formula q (get_or cone i 0)) ≡ depth_in q (get_or cone i 0)
  depth_is i l = sym (ready.nodes.deep (get_or cone i 0) (ready.ordered.nodes i l))

  module _ (t trail : List ℕ) (prefix : t ≡ take (length t) trail) (few : length t ≤ 6) (gains : List ℤ) (followed : Trail m s t) (summed : Gained m s t gains) where
    abbrev node : ℕ → ℕ
    node i = get_or cone i 0

    abbrev deep : ℕ → ℕ
    deep i = depth (formula q (node i))

    abbrev learn_one : ℕ → List ℕ → List ℕ
    learn_one j v = learn_node q truth trail gains (length t) (state_after m s t) j v

    -- One node more of the cone.
    known_more : (i : ℕ) (v : List ℕ) → i < length cone → 280 ≤ length v → Known m q s cone t i v → Known m q s cone t (suc i) (learn_one (node i) v)
    known_more i v l room K = go (dec_lt (length t) (deep i))
      where
        go : Dec (length t < deep i) → Known m q s cone t (suc i) (learn_one (node i) v)
        go (yes g) =
            record {
              right = λ e k a b c r.
                  ap (λ w. known w (node e) k) (learn_later q truth trail gains (length t) (state_after m s t) (node i) (deep i) v (depth_is i l) g)
                  ∙ K.right e k a b (λ z. earlier e k b c z (ℕ_discrete e i)) r;
            }
          where
            earlier : (e k : ℕ) → k + deep e ≤ length t → (k + deep e ≡ length t → e < suc i) → k + deep e ≡ length t → Dec (e ≡ i) → e < i
            earlier e k b c z (yes n) = absurd (omega (arith, ap deep n))
            earlier e k b c z (no n) = omega (arith, c z)
        go (no g) =
            record {
              right = λ e k a b c r.
                  ap (λ w. known w (node e) k) (learn_now q truth trail gains (length t) (state_after m s t) (node i) (deep i) v (depth_is i l) (omega arith))
                  ∙ at_index e k a b c r (ℕ_discrete (7 * node e + k) (7 * node i + (length t - deep i)));
            }
          where
            x : ℕ
            x = value_at q truth trail gains (length t) (state_after m s t) (deep i) (node i) v

            at_index : (e k : ℕ) → e < length cone → k + deep e ≤ length t → (k + deep e ≡ length t → e < suc i) → Needed ready t (node e) k
                → Dec (7 * node e + k ≡ 7 * node i + (length t - deep i))
                → known (set v (7 * node i + (length t - deep i)) x) (node e) k ≡ meaning ready t (node e) k
            at_index e k a b c r (yes n) =
                let p : k ≡ length t - deep i = omega arith in
                let o : node i ≡ node e = omega arith in
                let w : 7 * node i + (length t - deep i) < length v = omega (arith, cone_node i l) in
                let y : k + deep i ≡ length t = omega arith in
                ap (λ z. get_or (set v (7 * node i + (length t - deep i)) x) z 0) n
                ∙ get_or-set_same v (7 * node i + (length t - deep i)) x 0 w
                ∙ of_node ready t trail prefix gains followed summed i k v l K y (subst (λ z. Needed ready t z k) (sym o) r)
                ∙ ap (λ z. meaning ready t z k) o
            at_index e k a b c r (no n) =
                get_or-set_other v (7 * node i + (length t - deep i)) (7 * node e + k) x 0 n
                ∙ K.right e k a b (λ z. earlier z (ℕ_discrete e i)) r
              where
                earlier : k + deep e ≡ length t → Dec (e ≡ i) → e < i
                earlier z (yes p) = let y : k ≡ length t - deep i = omega (arith, ap deep p) in absurd (n (ap₂ (λ u w. 7 * u + w) (ap node p) y))
                earlier z (no p) = omega (arith, c z)

    abbrev learn_all : List ℕ → List ℕ → List ℕ
    learn_all l v = learnt q truth trail gains (length t) (state_after m s t) l v

    known_up_to : (i : ℕ) → i ≤ length cone → (v : List ℕ) → 280 ≤ length v → Known m q s cone t 0 v → Known m q s cone t i (learn_all (take i cone) v)
    unfolding learnt
    known_up_to zero l v room K = K
    known_up_to (suc i) l v room K =
        let n = learnt_length q truth trail gains (length t) (state_after m s t) (take i cone) v in
        let e = learnt_more q truth trail gains (length t) (state_after m s t) cone i (learn_all (take i cone) v) v (learn_one (node i) (learn_all (take i cone) v)) l refl refl in
        subst (Known m q s cone t (suc i)) (e ∙ ap (λ k. learn_all (take k cone) v) (add-one i))
        (known_more i (learn_all (take i cone) v) l (omega arith) (known_up_to i (omega arith) v room K))

    -- All that the last step makes known.
    pub known_all : (v : List ℕ) → 280 ≤ length v → Known m q s cone t 0 v → Known m q s cone t (length cone) (learn_all cone v)
    known_all v room K = subst (λ c. Known m q s cone t (length cone) (learn_all c v)) (take-length cone) (known_up_to (length cone) (omega arith) v room K)

-- ---- a step more

module _ (m q : Bytes) (s : ℕ) (cone t : List ℕ) (b : ℕ) where
  abbrev on : List ℕ
  on = t ++ (b ∷ [])

  on_length : length on ≡ suc (length t)
  on_length = length-append t (b ∷ []) ∙ omega arith

  same_state : (k : ℕ) → k ≤ length t → state_after m s (take k on) ≡ state_after m s (take k t)
  same_state k h = ap (state_after m s) (take-append-le k t (b ∷ []) h)

  -- A node that looks no further than the shorter path has the same value on the longer one.
  same_value : (j k : ℕ) → k + depth (formula q j) ≤ length t
      → value_of (model_in m) (formula q j) (state_after m s (take k on)) (drop k (steps_of m s on))
      ≡ value_of (model_in m) (formula q j) (state_after m s (take k t)) (drop k (steps_of m s t))
  same_value j k h =
      let R = steps_of m s t in
      let X = steps_of m (state_after m s t) (b ∷ []) in
      let n : length R ≡ length t = steps_length m s t in
      let d : length (drop k R) ≡ length R - k = length-drop k R in
      let e : drop k (steps_of m s on) ≡ drop k R ++ X = ap (drop k) (steps_append m s t (b ∷ [])) ∙ drop-append-le k R X (omega arith) in
      let f : take (depth (formula q j)) (drop k R ++ X) ≡ take (depth (formula q j)) (drop k R) = take-append-le (depth (formula q j)) (drop k R) X (omega arith) in
      ap₂ (λ x r. value_of (model_in m) (formula q j) x r) (same_state k (omega arith)) e
      ∙ ap one_if (sat_same (model_in m) (formula q j) (depth (formula q j)) (state_after m s (take k t)) (drop k R ++ X) (drop k R) (omega arith) f)

  pub known_longer : (v : List ℕ) → Known m q s cone t (length cone) v → Known m q s cone on 0 v
  known_longer v K =
      record {
        right = λ e k a h c r.
            let i : k + depth (formula q (get_or cone e 0)) ≤ length t = shorter (k + depth (formula q (get_or cone e 0))) (rw on_length at h) (λ z. c (z ∙ sym on_length)) in
            K.right e k a i (λ z. a) (subst (Reached m q (root_of cone) s (get_or cone e 0)) (same_state k (omega arith)) r) ∙ sym (same_value (get_or cone e 0) k i);
      }
    where
      shorter : {e : ℕ} (n : ℕ) → n ≤ suc (length t) → (n ≡ suc (length t) → e < 0) → n ≤ length t
      shorter n h c = go (ℕ_discrete n (suc (length t)))
        where
          go : Dec (n ≡ suc (length t)) → n ≤ length t
          go (yes z) = absurd (omega (arith, c z))
          go (no z) = omega arith

  pub known_shorter : (i : ℕ) (v : List ℕ) → Known m q s cone on i v → Known m q s cone t (length cone) v
  known_shorter i v K =
      record {
        right = λ e k a h c r.
            K.right e k a (rw on_length (omega arith)) (λ z. absurd (omega (arith, on_length)))
            (subst (Reached m q (root_of cone) s (get_or cone e 0)) (sym (same_state k (omega arith))) r) ∙ same_value (get_or cone e 0) k h;
      }

  same_gain : (k : ℕ) → k ≤ length t → gain_of (take k (steps_of m s on)) ≡ gain_of (take k (steps_of m s t))
  same_gain k h =
      ap gain_of (ap (take k) (steps_append m s t (b ∷ [])) ∙ take-append-le k (steps_of m s t) (steps_of m (state_after m s t) (b ∷ [])) (omega (arith, steps_length m s t)))

  pub gained_shorter : (gains : List ℤ) → Gained m s on gains → Gained m s t gains
  gained_shorter gains G = record { right = λ k h. G.right k (rw on_length (omega arith)) ∙ same_gain k h }

  -- The sum one step on.
  last_gain : gain_of (take (length on) (steps_of m s on)) ≡ gain_of (take (length t) (steps_of m s t)) +ℤ (step_of m (state_after m s t) b).reward
  unfolding steps_of sum
  last_gain =
      let R = steps_of m s t in
      ap gain_of (take_all (length on) (steps_of m s on) (omega (arith, steps_length m s on)) ∙ steps_append m s t (b ∷ []))
      ∙ gain_append R (steps_of m (state_after m s t) (b ∷ []))
      ∙ ap₂ ◌+ℤ◌ (ap gain_of (sym (take_all (length t) R (omega (arith, steps_length m s t))))) (+ℤ_idr (step_of m (state_after m s t) b).reward)

  pub gained_longer : (gains : List ℤ) → suc (length t) < length gains → Gained m s t gains
      → Gained m s on (set gains (suc (length t)) (get_or gains (length t) (pos 0) +ℤ (step_of m (state_after m s t) b).reward))
  gained_longer gains room G = record { right = λ k h. go k (rw on_length at h) (ℕ_discrete k (suc (length t))) }
    where
      z : ℤ
      z = get_or gains (length t) (pos 0) +ℤ (step_of m (state_after m s t) b).reward

      go : (k : ℕ) → k ≤ suc (length t) → Dec (k ≡ suc (length t)) → get_or (set gains (suc (length t)) z) k (pos 0) ≡ gain_of (take k (steps_of m s on))
      go k h (yes e) =
          ap (λ n. get_or (set gains (suc (length t)) z) n (pos 0)) e
          ∙ get_or-set_same gains (suc (length t)) z (pos 0) room
          ∙ ap (λ y. y +ℤ (step_of m (state_after m s t) b).reward) (G.right (length t) (omega arith))
          ∙ sym last_gain
          ∙ ap (λ n. gain_of (take n (steps_of m s on))) (on_length ∙ sym e)
      go k h (no n) = get_or-set_other gains (suc (length t)) k z (pos 0) n ∙ G.right k (omega arith) ∙ sym (same_gain k (omega arith))

  pub knows_shorter : (gains : List ℤ) (v : List ℕ) → Knows m q s cone on gains v → Knows m q s cone t gains v
  knows_shorter gains v K =
      record {
        followed = trail_shorter m s t (b ∷ []) K.followed;
        gained = gained_shorter gains K.gained;
        values = known_shorter (length cone) v K.values;
        sums = K.sums;
        places = K.places;
      }

-- Nothing is known by earlier steps where there is none.
pub known_none : (m q : Bytes) (s : ℕ) (cone v : List ℕ) → Known m q s cone [] 0 v
known_none m q s cone v = record { right = λ e k a h c r. absurd (omega (arith, c (omega arith))) }
