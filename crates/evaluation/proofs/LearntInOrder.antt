-- Values as `learn` computes them: an operator that looks at no step has none, and a list of nodes is learnt one after the other.
use Prim.Native.Nat.{ℕ, zero, suc, ◌+◌, ◌*◌, ◌-◌, ◌≤◌, ◌<◌}
use native.Mathlib.Omega.{arith}
use native.Mathlib.Numerals.{add-one}
use mathlib.Core.Path.{◌≡◌, refl, sym, ap, ◌∙◌}
use mathlib.Core.List.{List, [], ◌∷◌, ◌++◌}
use lib.IntN.{ℤ}
use mathlib.Core.Bool.{Bool, true, false, cond}
use lib.Dec.{leb}
use lib.ListN.{length, get_or, set, take, length-set}
use lib.Seq.{take-suc}
use borrow.Author.Tests.{eq-eqb, ne_eqb, le-leb, lt-leb}
use Rattle.logic.specs.Bound.{one_if}
use Rattle.blocks.specs.Bytes.{Bytes, byte}
use Rattle.questions.specs.Layout.{node_of}
use Rattle.prepared_question.specs.promises.Nodes.{depth_in}
use Rattle.evaluation.specs.promises.Learnt.{value_by, value_at, learn_node, learnt}

-- A value is 0 or 1.
pub one_if_small : (t : Bool) → one_if t ≤ 1
unfolding one_if
one_if_small true = omega arith
one_if_small false = omega arith

pub other_value : (q trail : Bytes) (gains : List ℤ) (h k j op : ℕ) (v : List ℕ)
    → (op ≡ 3 → ⊥) → (op ≡ 4 → ⊥) → (op ≡ 5 → ⊥) → (op ≡ 6 → ⊥) → (op ≡ 7 → ⊥) → value_by q trail gains h k j op v ≡ 0
unfolding value_by
other_value q trail gains h k j zero v n3 n4 n5 n6 n7 = refl
other_value q trail gains h k j (suc zero) v n3 n4 n5 n6 n7 = refl
other_value q trail gains h k j (suc (suc zero)) v n3 n4 n5 n6 n7 = refl
other_value q trail gains h k j (suc (suc (suc zero))) v n3 n4 n5 n6 n7 = absurd (n3 refl)
other_value q trail gains h k j (suc (suc (suc (suc zero)))) v n3 n4 n5 n6 n7 = absurd (n4 refl)
other_value q trail gains h k j (suc (suc (suc (suc (suc zero))))) v n3 n4 n5 n6 n7 = absurd (n5 refl)
other_value q trail gains h k j (suc (suc (suc (suc (suc (suc zero)))))) v n3 n4 n5 n6 n7 = absurd (n6 refl)
other_value q trail gains h k j (suc (suc (suc (suc (suc (suc (suc zero))))))) v n3 n4 n5 n6 n7 = absurd (n7 refl)
other_value q trail gains h k j (suc (suc (suc (suc (suc (suc (suc (suc op)))))))) v n3 n4 n5 n6 n7 = none op
  where
    none : (n : ℕ) → get_or {A = ℕ} [] n 0 ≡ 0
    none zero = refl
    none (suc n) = refl

-- A state formula's value stands in the table; another's is by its operator.
pub state_value : (q truth trail : Bytes) (gains : List ℤ) (h s d j : ℕ) (v : List ℕ) → d ≡ 0 → value_at q truth trail gains h s d j v ≡ byte truth (32 * j + s)
unfolding value_at
state_value q truth trail gains h s d j v e = rw (eq-eqb d 0 e) refl

pub path_value : (q truth trail : Bytes) (gains : List ℤ) (h s d j : ℕ) (v : List ℕ) → (d ≡ 0 → ⊥)
    → value_at q truth trail gains h s d j v ≡ value_by q trail gains h (h - d) j (node_of q j).operator v
unfolding value_at
path_value q truth trail gains h s d j v n = rw (ne_eqb d 0 n) refl

module _ (q truth trail : Bytes) (gains : List ℤ) (h s : ℕ) where
  -- A node is learnt where it looks no further ahead than the path goes.
  pub learn_now : (j d : ℕ) (v : List ℕ) → d ≡ depth_in q j → d ≤ h
      → learn_node q truth trail gains h s j v ≡ set v (7 * j + (h - d)) (value_at q truth trail gains h s d j v)
  unfolding learn_node
  learn_now j d v e l = rw (← e, le-leb d h l) refl

  pub learn_later : (j d : ℕ) (v : List ℕ) → d ≡ depth_in q j → h < d → learn_node q truth trail gains h s j v ≡ v
  unfolding learn_node
  learn_later j d v e l = rw (← e, lt-leb d h l) refl

  learnt_append : (l : List ℕ) (j : ℕ) (v : List ℕ)
      → learnt q truth trail gains h s (l ++ (j ∷ [])) v ≡ learn_node q truth trail gains h s j (learnt q truth trail gains h s l v)
  unfolding learnt
  learnt_append [] j v = refl
  learnt_append (i ∷ l) j v = learnt_append l j (learn_node q truth trail gains h s i v)

  -- One node more.
  pub learnt_more : (cone : List ℕ) (i : ℕ) (v v₀ v₁ : List ℕ) → i < length cone → v ≡ learnt q truth trail gains h s (take i cone) v₀
      → v₁ ≡ learn_node q truth trail gains h s (get_or cone i 0) v → v₁ ≡ learnt q truth trail gains h s (take (i + 1) cone) v₀
  learnt_more cone i v v₀ v₁ l e g =
      g ∙ ap (learn_node q truth trail gains h s (get_or cone i 0)) e ∙ sym (learnt_append (take i cone) (get_or cone i 0) v₀)
      ∙ ap (λ c. learnt q truth trail gains h s c v₀) (sym (ap (λ n. take n cone) (add-one i) ∙ take-suc cone i 0 l))

  node_length : (j : ℕ) (v : List ℕ) → length (learn_node q truth trail gains h s j v) ≡ length v
  unfolding learn_node
  node_length j v = go (leb (depth_in q j) h) (7 * j + (h - depth_in q j)) (value_at q truth trail gains h s (depth_in q j) j v)
    where
      go : (t : Bool) (i x : ℕ) → length (cond t (set v i x) v) ≡ length v
      go true i x = length-set v i x
      go false i x = refl

  pub learnt_length : (cone v : List ℕ) → length (learnt q truth trail gains h s cone v) ≡ length v
  unfolding learnt
  learnt_length [] v = refl
  learnt_length (j ∷ cone) v = learnt_length cone (learn_node q truth trail gains h s j v) ∙ node_length j v
