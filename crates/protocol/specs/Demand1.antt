-- Of demand 1, document 00: "every call on every input finishes with its result or a numbered refusal". These are the numbers that document
-- 01 lists for each call; by document 02, 8 no longer occurs (A.1), put has 13 (A.6), and write_model has 20 and 12 (A.7). (The demand itself
-- speaks of desk values: plan_judge/proofs/Claims/Demand1.)
use Rattle.std.specs.Prelude.{ℕ, List, [], ◌∷◌}
use Rattle.protocol.specs.Calls.{Call, load, put, judge, query, write, check, write_model}

unfoldable pub listed : Call → List ℕ
listed (load b) = 1 ∷ 2 ∷ 3 ∷ 4 ∷ 5 ∷ 6 ∷ 7 ∷ []
listed (put b) = 20 ∷ 1 ∷ 2 ∷ 3 ∷ 4 ∷ 5 ∷ 6 ∷ 9 ∷ 13 ∷ []
listed judge = 20 ∷ 21 ∷ 24 ∷ 25 ∷ []
listed (query (write a)) = 20 ∷ 21 ∷ 22 ∷ 23 ∷ 12 ∷ []
listed (query (check b)) = 20 ∷ 21 ∷ 22 ∷ 24 ∷ 25 ∷ 1 ∷ 2 ∷ 3 ∷ 4 ∷ 5 ∷ 6 ∷ 10 ∷ 11 ∷ []
listed (query (write_model a)) = 20 ∷ 12 ∷ []
