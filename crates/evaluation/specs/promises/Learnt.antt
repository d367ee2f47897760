-- What `learn` computes: a value, 0 or 1, of each node of a cone at the one place of a path where it becomes known with the last step,
-- as many steps back as the node looks ahead. The values stand 7 places a node, a place of the path each.
use Rattle.std.specs.Prelude.{ℕ, ◌+◌, ◌*◌, ◌-◌, ◌/◌, ◌<◌, Bool, cond, List, [], ◌∷◌, get_or, length, set, eqb, leb, ℤ, pos, ◌-ℤ◌}
use Rattle.std.specs.Int.Bits.{bit_and}
use Rattle.logic.specs.Formula.{relation}
use Rattle.logic.specs.Quantity.{integers, related}
use Rattle.logic.specs.Bound.{one_if}
use Rattle.blocks.specs.Bytes.{Bytes, byte}
use Rattle.questions.specs.Layout.{node_of}
use Rattle.prepared_question.specs.promises.Nodes.{depth_in}

-- The value of node j at place k.
abbrev pub known : List ℕ → ℕ → ℕ → ℕ
known v j k = get_or v (7 * j + k) 0

-- Of a "gain" after h steps, at place k: gains are the sums of the rewards of the first 0, 1, .. steps.
unfoldable pub gained : Bytes → List ℤ → (h k j : ℕ) → Bool
gained q gains h k j = related integers (relation (node_of q j).right) (get_or gains h (pos 0) -ℤ get_or gains k (pos 0)) (node_of q j).p

-- Of node j, which looks at steps, after h of them, at place k: by the number of its operator.
unfoldable pub value_by : Bytes → Bytes → List ℤ → (h k j op : ℕ) → List ℕ → ℕ
value_by q trail gains h k j op v =
    let left = (node_of q j).left in
    let right = (node_of q j).right in
    get_or
    (0
    ∷ 0
    ∷ 0
    ∷ one_if (eqb (known v left k) 0)
    ∷ bit_and (known v left k) (known v right k)
    ∷ one_if (eqb (byte trail k / 32) left)
    ∷ known v left (k + 1)
    ∷ one_if (gained q gains h k j)
    ∷ [])
    op
    0

-- Of a node of depth d after h steps, the last of which led to the state s; a state formula's stands in the table of truth.
unfoldable pub value_at : (q truth trail : Bytes) → List ℤ → (h s d j : ℕ) → List ℕ → ℕ
value_at q truth trail gains h s d j v = cond (eqb d 0) (byte truth (32 * j + s)) (value_by q trail gains h (h - d) j (node_of q j).operator v)

module _ (q truth trail : Bytes) (gains : List ℤ) (h s : ℕ) where
  unfoldable pub learn_node : ℕ → List ℕ → List ℕ
  learn_node j v = let d = depth_in q j in cond (leb d h) (set v (7 * j + (h - d)) (value_at q truth trail gains h s d j v)) v

  unfoldable pub learnt : List ℕ → List ℕ → List ℕ
  learnt [] v = v
  learnt (j ∷ cone) v = learnt cone (learn_node j v)

-- The nodes of a list have their places in the tables.
abbrev pub Below40 : List ℕ → Type 0
Below40 cone = (i : ℕ) → i < length cone → get_or cone i 0 < 40
