-- The grounds on which a question is refused, 1 to 6, 9 and 13, each a test on the whole input, for a model with S states, A actions and N
-- propositions. Document 01, "Refused because of the input" and the table of "Formulas"; document 02, A.3, for operator 9, and A.6 for 13.
use Rattle.std.specs.Prelude.{ℕ, ◌+◌, ◌-◌, ◌/◌, ◌%◌, Bool, true, false, not, ◌&&◌, List, [], ◌∷◌, eqb, ltb, leb, ℤ, pos, negsuc, get_or}
use Rattle.std.specs.Int.Signed.{le_z}
use Rattle.logic.specs.Lists.{all, every}
use Rattle.logic.specs.Checked.{Checked}
use Rattle.logic.specs.Grounds.{Ground, ◌unless◌, decided}
use Rattle.logic.specs.Formula.{Node, is_path, shallow}
use Rattle.blocks.specs.Bytes.{Bytes, byte, zeros, within}
use Rattle.blocks.specs.Block.{whole_blocks, sums_right, headed}
use Rattle.questions.specs.Layout.{Question, start_of, node_count, node_at, node_of, question_of}
use Rattle.questions.specs.Children.{all_reached}

-- 5, "gain", "plan" and operator 9: the steps and the relation.
unfoldable pub compares : Node → Bool
compares x = within 1 6 x.n && within 1 3 x.right

-- 5, "gain": p from -6000 to 6000, q = 1.
unfoldable pub gain_bound : ℤ → ℕ → Bool
gain_bound p q = eqb q 1 && le_z (negsuc 5999) p && le_z p (pos 6000)

-- 5, "plan": p from 0 to q, q from 1 to 1,000,000.
unfoldable pub plan_bound : ℤ → ℕ → Bool
plan_bound p q = within 1 1000000 q && le_z (pos 0) p && le_z p (pos q)

-- 5, "plan": the child too.
unfoldable pub plan_in_range : ℕ → Node → Bool
plan_in_range i x = compares x && ltb x.left i && plan_bound x.p x.q

-- 5, operator 9: the steps that earn, l to u, with the left byte l + 8 u: l from 1 to u, u at most n.
unfoldable pub span : (left n : ℕ) → Bool
span left n = ltb 0 (left % 8) && leb (left % 8) (left / 8) && leb (left / 8) n

-- 5, operator 9: p from -6,000,000 to 6,000,000, q from 1 to 1000.
unfoldable pub expected_bound : ℤ → ℕ → Bool
expected_bound p q = within 1 1000 q && le_z (negsuc 5999999) p && le_z p (pos 6000000)

-- 5, operator 9: all of its cells. It has no child.
unfoldable pub earns_in_range : Node → Bool
earns_in_range x = compares x && span x.left x.n && expected_bound x.p x.q

-- 5: the used fields of node i, a row for each operator. A node's children have smaller numbers than its own.
unfoldable pub node_in_range : (A N : ℕ) → ℕ → Node → Bool
node_in_range A N i x =
    get_or
    (false
    ∷ true
    ∷ ltb x.left N
    ∷ ltb x.left i
    ∷ (ltb x.left i && ltb x.right i)
    ∷ ltb x.left A
    ∷ ltb x.left i
    ∷ (compares x && gain_bound x.p x.q)
    ∷ plan_in_range i x
    ∷ earns_in_range x
    ∷ [])
    x.operator
    false

-- 6: the table's empty cells are spare, by a node's operator and by which of its cells n, left, right, and p with q are zero.
abbrev pub spare_by : (n left right pq : Bool) → ℕ → Bool
spare_by n left right pq operator =
    get_or
    (true
    ∷ (n && left && right && pq)
    ∷ (n && right && pq)
    ∷ (n && right && pq)
    ∷ (n && pq)
    ∷ (n && right && pq)
    ∷ (n && right && pq)
    ∷ left
    ∷ true
    ∷ true
    ∷ [])
    operator
    true

-- Byte 1 is n, 2 left, 3 right, 4 to 11 p and q.
unfoldable pub node_spare : Bytes → ℕ → Bool
node_spare b i =
    spare_by
    (zeros b (node_at i + 1) 1)
    (zeros b (node_at i + 2) 1)
    (zeros b (node_at i + 3) 1)
    (zeros b (node_at i + 4) 8)
    (byte b (node_at i))

-- Spare too: bytes 4 to 7, and the nodes beyond the count with the rest of the block.
unfoldable pub spare_zero : Bytes → Bool
spare_zero b = zeros b 4 4 && every (node_count b) (node_spare b) && zeros b (node_at (node_count b)) (510 - node_at (node_count b))

-- 9: the root is a state formula, and no "plan" has a child too deep. All nodes are checked, used or not.
unfoldable pub formed : Question → Bool
formed q = not (is_path q.root) && all shallow q.nodes

-- The grounds of a question, in document 01's order; 13 "straight after 9".
abbrev pub question_grounds : (S A N : ℕ) → Bytes → List Ground
question_grounds S A N b =
    1 unless whole_blocks 1 1 b
    ∷ 2 unless sums_right b
    ∷ 3 unless headed b 0 3 0
    ∷ 4 unless (ltb (start_of b) S && within 1 40 (node_count b))
    ∷ 5 unless every (node_count b) (λ i. node_in_range A N i (node_of b i))
    ∷ 6 unless spare_zero b
    ∷ 9 unless formed (question_of b)
    ∷ 13 unless all_reached b
    ∷ []

-- What a question's bytes are read as.
unfoldable pub read_question : (S A N : ℕ) → Bytes → Checked Question
read_question S A N b = decided (question_grounds S A N b) (question_of b)
