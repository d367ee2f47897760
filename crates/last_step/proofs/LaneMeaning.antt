-- The words are right: lane by lane, what an operator makes of its children's words is its meaning on the path that the outcome ends.
use Prim.Native.Nat.{ℕ, suc, ◌+◌, ◌*◌, ◌-◌, ◌/◌, ◌≤◌, ◌<◌}
use native.Mathlib.Omega.{arith}
use native.Mathlib.Decide.{ℕ_discrete}
use mathlib.Core.Path.{◌≡◌, refl, sym, ap, ap₂, subst, ◌∙◌}
use mathlib.Core.Bool.{Bool, true, false, not}
use mathlib.Core.List.{List, [], ◌∷◌, ◌++◌}
use lib.Bits.{bit_and}
use lib.Dec.{eqb}
use lib.IntN.{ℤ, pos, neg_ℤ, ◌+ℤ◌, ◌-ℤ◌, +ℤ_assoc, +ℤ_comm}
use lib.ListN.{length, get_or, set, take, drop, drop_of_length-le}
use lib.Seq.{take_all, take-length, get_or-set_same, get_or-set_other, get_or-append_seam}
use Rattle.logic.specs.Formula.{Node, depth, sat, relation}
use Rattle.logic.specs.Quantity.{integers, related}
use Rattle.logic.specs.Bound.{one_if}
use Rattle.logic.specs.promises.Total.{value_of}
use Rattle.blocks.specs.Bytes.{Bytes, byte}
use Rattle.models.specs.Layout.{state_count}
use Rattle.prepared_model.specs.promises.Rows.{choice_in, step_in, Offers, lane, model_in}
use Rattle.questions.specs.Layout.{node_count, node_of}
use Rattle.prepared_question.specs.promises.Nodes.{formula, depth_in, reads_left}
use Rattle.evaluation.specs.promises.Path.{number_of, steps_of, state_after, Trail}
use Rattle.evaluation.specs.promises.Reached.{Reached, itself, under_not, and_left, and_right, Earlier, root_of}
use Rattle.evaluation.specs.promises.Learnt.{known, gained}
use Rattle.evaluation.specs.promises.Known.{Known, Gained, Offered}
use Rattle.evaluation.proofs.Trails.{steps_length, steps_append}
use Rattle.evaluation.proofs.OperatorMeaning.{not_level, not_means, and_level, and_means, do_level, do_means, next_level, next_needed, next_means, gain_means, by_path}
use Rattle.evaluation.proofs.LearnKnows.{depth_is, cone_node, known_longer}
use Rattle.evaluation.proofs.StepTaken as stepping
use Rattle.last_step.specs.promises.Lanes.{Lanes, Laned}
use Rattle.last_step.specs.promises.Late.{PassedOn}
use Rattle.last_step.specs.promises.Masks.{BeforeLast, Part, Worded, Masked, Ended}

-- A value is 1 where it is not 0.
a_bit : (t : Bool) → one_if (not (eqb (one_if t) 0)) ≡ one_if t
unfolding one_if
a_bit true = refl
a_bit false = refl

sum_last : (x y z : ℤ) → (x +ℤ z) -ℤ y ≡ (x -ℤ y) +ℤ z
sum_last x y z = +ℤ_assoc x z (neg_ℤ y) ∙ ap (λ w. x +ℤ w) (+ℤ_comm z (neg_ℤ y)) ∙ sym (+ℤ_assoc x (neg_ℤ y) z)

module _ {m q : Bytes} {start : ℕ} {truth cone late trail : List ℕ} {gains : List ℤ} {v : List ℕ} {h s : ℕ}
    (B : BeforeLast m q start truth cone late trail gains v h s) where
  abbrev T : List ℕ
  T = take h trail

  abbrev node : ℕ → ℕ
  node i = get_or cone i 0

  pub state_here : s < state_count m
  state_here = stepping.state_reached B.ready B.knows B.state

  pub root_small : root_of cone < 40
  root_small = cone_node B.ready (length cone - 1) (omega (arith, B.marked.some))

  -- The path that an outcome o of the choice at place a ends.
  module _ (a o : ℕ) (offers : Offers m s a o) where
    abbrev on : List ℕ
    on = T ++ (number_of m s a o ∷ [])

    offered : Offered m start trail h s a o
    offered = record { steps = B.few; state = B.state; offers = offers }

    sizes : (s < 32) × (a < 8) × (o < 4)
    sizes = stepping.sizes_small B.ready offered B.knows

    pub lane_small : 4 * a + o < 32
    lane_small = omega (arith, sizes)

    on_length : length on ≡ h + 1
    on_length = stepping.on_length B.ready offered B.knows B.whole

    prefix : on ≡ take (length on) on
    prefix = sym (take-length on)

    followed : Trail m start on
    followed = stepping.followed_on B.ready offered B.knows B.whole

    abbrev sums : List ℤ
    sums = set gains (h + 1) (get_or gains h (pos 0) +ℤ (step_in m s a o).reward)

    summed : Gained m start on sums
    summed = stepping.gained_on B.ready offered B.knows B.whole sums refl

    known_before : Known m q start cone on 0 v
    known_before = known_longer m q start cone T (number_of m s a o) v B.knows.values

    abbrev Needed : ℕ → ℕ → Type 0
    Needed j k = Reached m q (root_of cone) start j (state_after m start (take k on))

    abbrev meaning : ℕ → ℕ → ℕ
    meaning j k = value_of (model_in m) (formula q j) (state_after m start (take k on)) (drop k (steps_of m start on))

    -- A node that looks no further than the path before the last step.
    before : (i k c : ℕ) → i < length cone → Earlier cone i c → k + depth (formula q c) ≤ h → Needed c k → one_if (not (eqb (known v c k) 0)) ≡ meaning c k
    before i k c l e d r =
        let g : known v c k ≡ meaning c k =
        subst (λ z. k + depth (formula q z) ≤ h → Needed z k → known v z k ≡ meaning z k) e.2
        (λ d r. known_before.right e.0 k (omega (arith, e.1)) (omega (arith, on_length)) (λ z. absurd (omega (arith, on_length))) r) d r in
        ap (λ z. one_if (not (eqb z 0))) g ∙ a_bit (sat (model_in m) (formula q c) (state_after m start (take k on)) (drop k (steps_of m start on)))

  -- The node at place i of the cone, with the words of those before it.
  module _ {i : ℕ} {masks : List ℕ} (M : Masked m q start cone late T s i masks) (l : i < length cone) (marked : get_or late (node i) 0 ≡ 1) (deep : depth_in q (node i) ≡ 0 → ⊥) where
    abbrev x : Node
    x = node_of q (node i)

    abbrev word : ℕ → ℕ
    word c = get_or masks c 0

    inside : node i < node_count q
    inside = B.ready.ordered.nodes i l

    passed : PassedOn q late (node i)
    passed = B.marked.closed i l marked

    small : {c : ℕ} → Earlier cone i c → c < 40
    small e = subst (λ z. z < 40) e.2 (cone_node B.ready e.0 (omega (arith, e.1)))

    path : depth (formula q (node i)) ≡ 0 → ⊥
    path z = deep (sym (depth_is B.ready i l) ∙ z)

    left : (op : ℕ) → x.operator ≡ op → reads_left op ≡ true → Earlier cone i x.left
    left op e h = B.ready.ordered.lefts i l path (ap reads_left e ∙ h)

    pub left_small : (op : ℕ) → x.operator ≡ op → reads_left op ≡ true → x.left < 40
    left_small op e h = small (left op e h)

    pub right_small : x.operator ≡ 4 → x.right < 40
    right_small e = small (B.ready.ordered.rights i l path e)

    level_on : (k a o : ℕ) (u : Offers m s a o) → k + depth (formula q (node i)) ≡ length T + 1 → k + depth (formula q (node i)) ≡ length (on a o u)
    level_on k a o u d = omega (arith, B.whole, on_length a o u)

    -- A child whose value becomes known with the same step.
    child : (k c a o : ℕ) (u : Offers m s a o) → Earlier cone i c → get_or late c 0 ≡ 1 → k + depth (formula q c) ≡ length (on a o u) → Needed a o u c k
        → lane (word c) (4 * a + o) ≡ meaning a o u c k
    child k c a o u e h d r =
        subst (λ z. get_or late z 0 ≡ 1 → k + depth (formula q z) ≡ length (on a o u) → Needed a o u z k → lane (word z) (4 * a + o) ≡ meaning a o u z k) e.2
        (λ h d r. (M.right e.0 e.1 h).right k a o u (omega (arith, B.whole, on_length a o u)) r) h d r

    pub not_word : (r : ℕ) → x.operator ≡ 3 → Lanes (λ n. one_if (eqb (lane (word x.left) n) 0)) r → Worded m q start cone T s (node i) r
    unfolding reads_left
    not_word r e R =
        record {
          right = λ k a o u d n.
              let p = prefix a o u in
              let f = followed a o u in
              let g = summed a o u in
              let z = level_on k a o u d in
              let c = not_level B.ready (on a o u) (on a o u) p (sums a o u) f g (node i) k inside z e in
              R.right (4 * a + o) (lane_small a o u)
              ∙ not_means B.ready (on a o u) (on a o u) p (sums a o u) f g (node i) k inside z e (lane (word x.left) (4 * a + o))
              (child k x.left a o u (left 3 e refl) (passed.under_not deep e) c (under_not n e));
        }

    of_part : (d k c y a o : ℕ) (u : Offers m s a o) → d ≡ depth_in q (node i) → Earlier cone i c → (depth_in q c ≡ depth_in q (node i) → get_or late c 0 ≡ 1)
        → k + depth (formula q (node i)) ≡ length (on a o u) → k + depth (formula q c) ≤ length (on a o u) → Needed a o u c k → Part q v masks d k c y
        → lane y (4 * a + o) ≡ meaning a o u c k
    of_part d k c y a o u f e too z b r P = go (ℕ_discrete (depth_in q c) d)
      where
        known_depth : depth (formula q c) ≡ depth_in q c
        known_depth = subst (λ z. depth (formula q z) ≡ depth_in q z) e.2 (depth_is B.ready e.0 (omega (arith, e.1)))

        go : Dec (depth_in q c ≡ d) → lane y (4 * a + o) ≡ meaning a o u c k
        go (yes w) =
            ap (λ n. lane n (4 * a + o)) (P.own w)
            ∙ child k c a o u e (too (w ∙ f)) (omega (arith, known_depth, depth_is B.ready i l)) r
        go (no w) =
            (P.earlier w).right (4 * a + o) (lane_small a o u)
            ∙ before a o u i k c l e (below (ℕ_discrete (k + depth (formula q c)) (length (on a o u)))) r
          where
            below : Dec (k + depth (formula q c) ≡ length (on a o u)) → k + depth (formula q c) ≤ h
            below (yes n) = absurd (w (omega (arith, known_depth, depth_is B.ready i l)))
            below (no n) = omega (arith, on_length a o u)

    pub and_word : (r d k y z : ℕ) → x.operator ≡ 4 → d ≡ depth_in q (node i) → k + d ≡ h + 1 → Part q v masks d k x.left y → Part q v masks d k x.right z
        → Lanes (λ n. bit_and (lane y n) (lane z n)) r → Worded m q start cone T s (node i) r
    unfolding reads_left
    and_word r d k y z e f g P Q R =
        record {
          right = λ k' a o u d' n.
              let same : k' ≡ k = omega (arith, B.whole, depth_is B.ready i l) in
              let n' = subst (λ w. Needed a o u (node i) w) same n in
              let w : k + depth (formula q (node i)) ≡ length (on a o u) = omega (arith, on_length a o u, depth_is B.ready i l) in
              let p = prefix a o u in
              let F = followed a o u in
              let G = summed a o u in
              let c = and_level B.ready (on a o u) (on a o u) p (sums a o u) F G (node i) k inside w e in
              R.right (4 * a + o) (lane_small a o u)
              ∙ and_means B.ready (on a o u) (on a o u) p (sums a o u) F G (node i) k inside w e (lane y (4 * a + o)) (lane z (4 * a + o))
              (of_part d k x.left y a o u f (left 4 e refl) (passed.and_left deep e) w c.0 (and_left n' e) P)
              (of_part d k x.right z a o u f (B.ready.ordered.rights i l path e) (passed.and_right deep e) w c.1 (and_right n' e) Q)
              ∙ ap (meaning a o u (node i)) (sym same);
        }

    pub do_word : (r : ℕ) → x.operator ≡ 5 → Laned m s (λ a o. one_if (eqb (choice_in m s a) x.left)) r → Worded m q start cone T s (node i) r
    do_word r e R =
        record {
          right = λ k a o u d n.
              let p = prefix a o u in
              let f = followed a o u in
              let g = summed a o u in
              let z = level_on k a o u d in
              let c = do_level B.ready (on a o u) (on a o u) p (sums a o u) f g (node i) k inside z e in
              let here : k ≡ length T = omega (arith, B.whole, on_length a o u) in
              let b : byte (on a o u) k / 32 ≡ choice_in m s a =
              ap (λ w. get_or (on a o u) w 0 / 32) here
              ∙ ap (λ w. w / 32) (get_or-append_seam T (number_of m s a o) [] 0)
              ∙ omega (arith, sizes a o u) in
              R.right a o u
              ∙ ap (λ w. one_if (eqb w x.left)) (sym b)
              ∙ do_means B.ready (on a o u) (on a o u) p (sums a o u) f g (node i) k inside z e;
        }

    pub next_word : x.operator ≡ 6 → Worded m q start cone T s (node i) (word x.left)
    unfolding reads_left
    next_word e =
        record {
          right = λ k a o u d n.
              let p = prefix a o u in
              let f = followed a o u in
              let g = summed a o u in
              let z = level_on k a o u d in
              let c = next_level B.ready (on a o u) (on a o u) p (sums a o u) f g (node i) k inside z e in
              let n' = next_needed B.ready (on a o u) (on a o u) p (sums a o u) f g (node i) k inside z e n in
              next_means B.ready (on a o u) (on a o u) p (sums a o u) f g (node i) k inside z e (lane (word x.left) (4 * a + o))
              (child (suc k) x.left a o u (left 6 e refl) (passed.under_next deep e) c.1 n');
        }

    pub gain_word : (r d k : ℕ) → x.operator ≡ 7 → d ≡ depth_in q (node i) → k + d ≡ h + 1
        → Laned m s (λ a o. one_if (related integers (relation x.right) ((get_or gains h (pos 0) -ℤ get_or gains k (pos 0)) +ℤ (step_in m s a o).reward) x.p)) r
        → Worded m q start cone T s (node i) r
    unfolding gained
    gain_word r d k e f w R =
        record {
          right = λ k' a o u d' n.
              let same : k' ≡ k = omega (arith, B.whole, depth_is B.ready i l) in
              let z : k + depth (formula q (node i)) ≡ length (on a o u) = omega (arith, on_length a o u, depth_is B.ready i l) in
              let room : h + 1 < length gains = omega (arith, B.knows.sums, B.few) in
              let all : get_or (sums a o u) (length (on a o u)) (pos 0) ≡ get_or gains h (pos 0) +ℤ (step_in m s a o).reward =
              ap (λ n. get_or (sums a o u) n (pos 0)) (on_length a o u) ∙ get_or-set_same gains (h + 1) (get_or gains h (pos 0) +ℤ (step_in m s a o).reward) (pos 0) room in
              let some : get_or (sums a o u) k (pos 0) ≡ get_or gains k (pos 0) =
              get_or-set_other gains (h + 1) k (get_or gains h (pos 0) +ℤ (step_in m s a o).reward) (pos 0) (λ n. path (omega (arith, depth_is B.ready i l))) in
              let g : get_or (sums a o u) (length (on a o u)) (pos 0) -ℤ get_or (sums a o u) k (pos 0) ≡ (get_or gains h (pos 0) -ℤ get_or gains k (pos 0)) +ℤ (step_in m s a o).reward =
              ap₂ ◌-ℤ◌ all some ∙ sum_last (get_or gains h (pos 0)) (get_or gains k (pos 0)) (step_in m s a o).reward in
              R.right a o u
              ∙ ap (λ y. one_if (related integers (relation x.right) y x.p)) (sym g)
              ∙ gain_means B.ready (on a o u) (on a o u) (prefix a o u) (sums a o u) (followed a o u) (summed a o u) (node i) k inside z e
              ∙ ap (meaning a o u (node i)) (sym same);
        }

    -- No other operator looks at steps.
    pub no_word : (r : ℕ) → (x.operator ≡ 3 → ⊥) → (x.operator ≡ 4 → ⊥) → (x.operator ≡ 5 → ⊥) → (x.operator ≡ 6 → ⊥) → (x.operator ≡ 7 → ⊥) → Worded m q start cone T s (node i) r
    no_word r n3 n4 n5 n6 n7 =
        record {
          right = λ k a o u d n.
              absurd (by_path B.ready (on a o u) (on a o u) (prefix a o u) (sums a o u) (followed a o u) (summed a o u) (node i) k inside (level_on k a o u d) (λ _. ⊥) path n3 n4 n5 n6 n7);
        }

  module _ {i : ℕ} (l : i < length cone) where
    -- A state formula: its truth in the target.
    pub state_word : (r : ℕ) → depth (formula q (node i)) ≡ 0
        → Laned m s (λ a o. one_if (not (eqb (byte truth (32 * node i + (step_in m s a o).target)) 0))) r → Worded m q start cone T s (node i) r
    state_word r e R =
        record {
          right = λ k a o u d n.
              let z : k ≡ length (on a o u) = omega (arith, B.whole, on_length a o u) in
              let here : state_after m start (take k (on a o u)) ≡ (step_in m s a o).target =
              ap (state_after m start) (take_all k (on a o u) (omega arith)) ∙ stepping.state_on B.ready (offered a o u) B.knows in
              let rest : drop k (steps_of m start (on a o u)) ≡ [] = drop_of_length-le (steps_of m start (on a o u)) {i = k} (omega (arith, steps_length m start (on a o u))) in
              let at = state_after m start (take k (on a o u)) in
              let t : byte truth (32 * node i + (step_in m s a o).target) ≡ value_of (model_in m) (formula q (node i)) at (drop k (steps_of m start (on a o u))) =
              ap (λ y. byte truth (32 * node i + y)) (sym here)
              ∙ B.ready.truth_right B.marked.some (node i) at n e
              ∙ ap (value_of (model_in m) (formula q (node i)) at) (sym rest) in
              R.right a o u
              ∙ ap (λ y. one_if (not (eqb y 0))) t
              ∙ a_bit (sat (model_in m) (formula q (node i)) at (drop k (steps_of m start (on a o u))));
        }

    -- A node that looks further than the whole path is not known with its last step.
    pub deep_word : (r : ℕ) → h + 1 < depth (formula q (node i)) → Worded m q start cone T s (node i) r
    deep_word r e = record { right = λ k a o u d n. absurd (omega (arith, B.whole)) }

    -- One word more.
    pub masked_more : (masks : List ℕ) (x : ℕ) → length masks ≡ 40 → Masked m q start cone late T s i masks → Worded m q start cone T s (node i) x
        → Masked m q start cone late T s (suc i) (set masks (node i) x)
    masked_more masks x room M W = record { right = λ e le marked. go e le marked (ℕ_discrete (node i) (node e)) }
      where
        go : (e : ℕ) → e < suc i → get_or late (node e) 0 ≡ 1 → Dec (node i ≡ node e) → Worded m q start cone T s (node e) (get_or (set masks (node i) x) (node e) 0)
        go e le marked (yes n) =
            subst (λ j. Worded m q start cone T s j (get_or (set masks (node i) x) j 0)) n
            (subst (Worded m q start cone T s (node i)) (sym (get_or-set_same masks (node i) x 0 (omega (arith, cone_node B.ready i l)))) W)
        go e le marked (no n) =
            subst (Worded m q start cone T s (node e)) (sym (get_or-set_other masks (node i) (node e) x 0 (λ z. n (sym z)))) (M.right e (earlier (ℕ_discrete e i)) marked)
          where
            earlier : Dec (e ≡ i) → e < i
            earlier (yes p) = absurd (n (ap node (sym p)))
            earlier (no p) = omega arith

    -- A node that is not marked.
    pub masked_skip : (masks : List ℕ) → (get_or late (node i) 0 ≡ 1 → ⊥) → Masked m q start cone late T s i masks → Masked m q start cone late T s (suc i) masks
    masked_skip masks n M = record { right = λ e le marked. M.right e (earlier e le marked (ℕ_discrete e i)) marked }
      where
        earlier : (e : ℕ) → e < suc i → get_or late (node e) 0 ≡ 1 → Dec (e ≡ i) → e < i
        earlier e le marked (yes p) = absurd (n (subst (λ z. get_or late (node z) 0 ≡ 1) p marked))
        earlier e le marked (no p) = omega arith

  pub masked_none : (masks : List ℕ) → Masked m q start cone late T s 0 masks
  masked_none masks = record { right = λ e le marked. absurd (omega arith) }

  -- All words are made: the root's is the condition's.
  pub ended : (masks : List ℕ) → Masked m q start cone late T s (length cone) masks → Ended m q start cone T s (get_or masks (root_of cone) 0)
  unfolding state_after steps_of
  ended masks M =
      record {
        right = λ a o u.
            let W = M.right (length cone - 1) (omega (arith, B.marked.some)) B.marked.root in
            W.right 0 a o u (omega (arith, B.deep, B.whole)) itself
            ∙ ap (value_of (model_in m) (formula q (root_of cone)) start)
            (steps_append m start T (number_of m s a o ∷ []) ∙ ap (λ z. steps_of m start T ++ (z ∷ [])) (stepping.the_step B.ready (offered a o u) B.knows));
      }
