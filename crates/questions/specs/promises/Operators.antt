-- The byte that stands for each operator and for each relation, and what each byte stands for.
use Rattle.std.specs.Prelude.{ℕ, [], ◌∷◌, Result, Ok, Err, get_or}
use Rattle.questions.specs.declared.operators.Operator.{Operator}
use Rattle.questions.specs.declared.operators.Operator.TheVariants.{False, Prop, Not, And, Do, Next, Gain, Plan, Earns}
use Rattle.questions.specs.declared.operators.Relation.{Relation}
use Rattle.questions.specs.declared.operators.Relation.TheVariants.{Less, Equal, Greater}
use Rattle.questions.specs.declared.operators.Unknown.{Unknown}

abbrev pub operator_number : Operator → ℕ
operator_number False = 1
operator_number Prop = 2
operator_number Not = 3
operator_number And = 4
operator_number Do = 5
operator_number Next = 6
operator_number Gain = 7
operator_number Plan = 8
operator_number Earns = 9

abbrev pub relation_number : Relation → ℕ
relation_number Less = 1
relation_number Equal = 2
relation_number Greater = 3

-- The operator for which a byte stands: none for 0 and from 10 on.
unfoldable pub operator_of : ℕ → Result Operator Unknown
operator_of n =
    get_or
    (Err (record { 0 = n })
    ∷ Ok False
    ∷ Ok Prop
    ∷ Ok Not
    ∷ Ok And
    ∷ Ok Do
    ∷ Ok Next
    ∷ Ok Gain
    ∷ Ok Plan
    ∷ Ok Earns
    ∷ [])
    n
    (Err (record { 0 = n }))

-- The relation for which a byte stands: none for 0 and from 4 on.
unfoldable pub relation_of : ℕ → Result Relation Unknown
relation_of n = get_or (Err (record { 0 = n }) ∷ Ok Less ∷ Ok Equal ∷ Ok Greater ∷ []) n (Err (record { 0 = n }))
