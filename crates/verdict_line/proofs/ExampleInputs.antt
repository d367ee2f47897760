-- The program's lines for some inputs are computed, from the stored bytes on: each row of the table has the line as it is printed.
use Prim.Native.Nat.{ℕ}
use Prim.Native.String.{String}
use mathlib.Core.Path.{◌≡◌, refl, ap₂, ◌∙◌}
use mathlib.Core.List.{List, [], ◌∷◌, ◌++◌, map, flat_map, foldr}
use lib.ListN.{replicate}
use Rattle.logic.specs.Lists.{is_empty, all, any, every, find, keep, product, join, count_from, tabulate}
use Rattle.logic.specs.Model.{no_action, true_of, contradict, mask, prop_in, enabled_actions, deadlocked, enabled, stored, outcomes}
use Rattle.logic.specs.Quantity.{sum, related}
use Rattle.logic.specs.Plan.{plans, choices, paths, weight}
use Rattle.logic.specs.Bound.{total, meets, compared, lamp, one_if, gain_between}
use Rattle.logic.specs.Formula.{nonnegative, relation, formula_of, formulas, depth, is_path, shallow, sat}
use Rattle.logic.specs.Verdict.{leads, is_equal, bound_of, goal, shown, leader, verdict}
use Rattle.logic.specs.Reason.{foremost, standing, reason_for, reason}
use Rattle.logic.specs.Limits.{path_total, multiply, plan_total, every_plan, limits}
use Rattle.blocks.specs.Bytes.{Bytes, u16, u32, signed, i16, i32, little_endian, zeros, within}
use Rattle.blocks.specs.Block.{sum_below, block_count, whole_blocks, word_sum, sums_right, headed, with_word_sum}
use Rattle.models.specs.Layout.{literals, state_mask, pre_of, post_count, post_of, cell_at, outcome_of, entries, model_of}
use Rattle.models.specs.Grounds.{kinds_right, sizes_right, mask_in_range, literals_in_range, action_in_range, outcome_in_range, cell_in_range, fields_right, action_spare, head_spare, row_spare, rows_spare, cell_spare, cells_spare, posts_contradict, cell_consistent, consistent, read_model}
use Rattle.questions.specs.Layout.{node_of, formulas_of, question_of}
use Rattle.questions.specs.Children.{children, reaches, all_reached}
use Rattle.questions.specs.Grounds.{compares, gain_bound, plan_bound, plan_in_range, span, expected_bound, earns_in_range, node_in_range, node_spare, spare_zero, formed, read_question}
use Rattle.blocks.specs.Splice.{splice}
use Rattle.verdict_line.specs.Text.{text, decimal, decimal_in, signed_decimal}
use Rattle.verdict_line.specs.Line.{refused_line, plain_line, lamp_word, optional_word, no_plans_line, yes_plan_line, bounds_plans, verdict_line, verdict_says, printed}
use Rattle.verdict_line.specs.Reasons.{reached_line, reason_text, whynot_says, explained}
use Rattle.verdict_line.specs.promises.Chain.{judged_text, line_of, answer_text}
use Rattle.verdict_line.proofs.LineIsChain.{printed_is, explained_is}

-- A block of zeros but for what stands at some places, and the word that makes the sum right.
unfoldable pub block : List (ℕ × List ℕ) → Bytes
block runs = with_word_sum (foldr (λ r b. splice b r.0 r.1) (replicate 510 0) runs)

-- The two_shelf model: the head with three state masks and four actions, and one block of rows.
unfoldable pub two_shelf : Bytes
two_shelf =
    block
    ((0, 1 ∷ 0 ∷ 3 ∷ 4 ∷ 2 ∷ 10 ∷ [])
    ∷ (12, 1 ∷ [])
    ∷ (16, 2 ∷ [])
    ∷ (140, 3 ∷ 0 ∷ 0 ∷ 0 ∷ 2 ∷ []) ∷ (148, 1 ∷ []) ∷ (160, 1 ∷ [])
    ∷ (184, 3 ∷ 0 ∷ 0 ∷ 0 ∷ 2 ∷ []) ∷ (192, 1 ∷ []) ∷ (204, 1 ∷ [])
    ∷ (224, 1 ∷ []) ∷ (232, 2 ∷ []) ∷ (236, 2 ∷ []) ∷ (248, 2 ∷ [])
    ∷ (268, 2 ∷ []) ∷ (276, 1 ∷ []) ∷ (280, 2 ∷ [])
    ∷ [])
    ++ block
    ((0, 2 ∷ 1 ∷ [])
    ∷ (4, 1 ∷ 8 ∷ 254 ∷ 255 ∷ 0 ∷ 2 ∷ 254 ∷ 255 ∷ [])
    ∷ (20, 1 ∷ 5 ∷ 255 ∷ 255 ∷ 0 ∷ 5 ∷ 255 ∷ 255 ∷ [])
    ∷ (164, 2 ∷ 9 ∷ 10 ∷ 0 ∷ 1 ∷ 1 ∷ [])
    ∷ (308, 2 ∷ 10 ∷ [])
    ∷ [])

-- Proposition 1, next, next, and "plan": 2 steps, equal 45/100.
unfoldable pub question : Bytes
question = block ((0, 3 ∷ 0 ∷ 0 ∷ 4 ∷ []) ∷ (8, 2 ∷ 0 ∷ 1 ∷ []) ∷ (20, 6 ∷ []) ∷ (32, 6 ∷ 0 ∷ 1 ∷ []) ∷ (44, 8 ∷ 2 ∷ 2 ∷ 2 ∷ 45 ∷ 0 ∷ 0 ∷ 0 ∷ 100 ∷ []) ∷ [])

-- Operator 9: 2 steps of which step 1 earns (1 + 8 * 1), less than -1/1.
unfoldable pub first_gain : Bytes
first_gain = block ((0, 3 ∷ 0 ∷ 0 ∷ 1 ∷ []) ∷ (8, 9 ∷ 2 ∷ 9 ∷ 1 ∷ 255 ∷ 255 ∷ 255 ∷ 255 ∷ 1 ∷ []) ∷ [])

-- The question with a node that nobody uses: proposition 0 is node 1, and the others follow it.
unfoldable pub leftover : Bytes
leftover =
    block
    ((0, 3 ∷ 0 ∷ 0 ∷ 5 ∷ [])
    ∷ (8, 2 ∷ 0 ∷ 1 ∷ []) ∷ (20, 2 ∷ []) ∷ (32, 6 ∷ []) ∷ (44, 6 ∷ 0 ∷ 2 ∷ [])
    ∷ (56, 8 ∷ 2 ∷ 3 ∷ 2 ∷ 45 ∷ 0 ∷ 0 ∷ 0 ∷ 100 ∷ [])
    ∷ [])

-- The same, and the node that nobody uses is a "plan" of one step over node 2, which looks two steps ahead: 9 comes before 13.
unfoldable pub deep_leftover : Bytes
deep_leftover =
    block
    ((0, 3 ∷ 0 ∷ 0 ∷ 5 ∷ [])
    ∷ (8, 2 ∷ 0 ∷ 1 ∷ []) ∷ (20, 6 ∷ []) ∷ (32, 6 ∷ 0 ∷ 1 ∷ []) ∷ (44, 8 ∷ 1 ∷ 2 ∷ 3 ∷ 0 ∷ 0 ∷ 0 ∷ 0 ∷ 1 ∷ [])
    ∷ (56, 8 ∷ 2 ∷ 2 ∷ 2 ∷ 45 ∷ 0 ∷ 0 ∷ 0 ∷ 100 ∷ [])
    ∷ [])

-- Propositions 0 and 1, "and" of both, "not". Proposition 1 is reached as the right child alone.
unfoldable pub not_both : Bytes
not_both = block ((0, 3 ∷ 0 ∷ 0 ∷ 4 ∷ []) ∷ (8, 2 ∷ []) ∷ (20, 2 ∷ 0 ∷ 1 ∷ []) ∷ (32, 4 ∷ 0 ∷ 0 ∷ 1 ∷ []) ∷ (44, 3 ∷ 0 ∷ 2 ∷ []) ∷ [])

-- The model without its wait action: in state 2 the work is over, and its cells are spare. The first of them begins with the
-- bytes given.
unfoldable pub without_wait : Bytes → Bytes
without_wait spare =
    block
    ((0, 1 ∷ 0 ∷ 3 ∷ 3 ∷ 2 ∷ 10 ∷ [])
    ∷ (12, 1 ∷ [])
    ∷ (16, 2 ∷ [])
    ∷ (140, 3 ∷ 0 ∷ 0 ∷ 0 ∷ 2 ∷ []) ∷ (148, 1 ∷ []) ∷ (160, 1 ∷ [])
    ∷ (184, 3 ∷ 0 ∷ 0 ∷ 0 ∷ 2 ∷ []) ∷ (192, 1 ∷ []) ∷ (204, 1 ∷ [])
    ∷ (224, 1 ∷ []) ∷ (232, 2 ∷ []) ∷ (236, 2 ∷ []) ∷ (248, 2 ∷ [])
    ∷ [])
    ++ block
    ((0, 2 ∷ 1 ∷ [])
    ∷ (4, 1 ∷ 8 ∷ 254 ∷ 255 ∷ 0 ∷ 2 ∷ 254 ∷ 255 ∷ [])
    ∷ (20, 1 ∷ 5 ∷ 255 ∷ 255 ∷ 0 ∷ 5 ∷ 255 ∷ 255 ∷ [])
    ∷ (164, 2 ∷ 9 ∷ 10 ∷ 0 ∷ 1 ∷ 1 ∷ [])
    ∷ (260, spare)
    ∷ [])

-- Proposition 1, next, next, next, and "plan": 3 steps, equal 720/1000.
unfoldable pub three_steps : Bytes
three_steps =
    block
    ((0, 3 ∷ 0 ∷ 0 ∷ 5 ∷ [])
    ∷ (8, 2 ∷ 0 ∷ 1 ∷ []) ∷ (20, 6 ∷ []) ∷ (32, 6 ∷ 0 ∷ 1 ∷ []) ∷ (44, 6 ∷ 0 ∷ 2 ∷ [])
    ∷ (56, 8 ∷ 3 ∷ 3 ∷ 2 ∷ 208 ∷ 2 ∷ 0 ∷ 0 ∷ 232 ∷ 3 ∷ [])
    ∷ [])

-- Two states, and two actions that lead to both from each: 5 steps have 2 to the 31 plans.
unfoldable pub coins : Bytes
coins =
    block
    ((0, 1 ∷ 0 ∷ 2 ∷ 2 ∷ 1 ∷ 2 ∷ [])
    ∷ (12, 1 ∷ [])
    ∷ (144, 2 ∷ []) ∷ (148, 1 ∷ []) ∷ (160, 1 ∷ [])
    ∷ (188, 2 ∷ []) ∷ (192, 1 ∷ []) ∷ (204, 1 ∷ [])
    ∷ [])
    ++ block
    ((0, 2 ∷ 1 ∷ [])
    ∷ (4, 1 ∷ 1 ∷ 0 ∷ 0 ∷ 0 ∷ 1 ∷ []) ∷ (20, 1 ∷ 1 ∷ 0 ∷ 0 ∷ 0 ∷ 1 ∷ [])
    ∷ (132, 1 ∷ 1 ∷ 0 ∷ 0 ∷ 0 ∷ 1 ∷ []) ∷ (148, 1 ∷ 1 ∷ 0 ∷ 0 ∷ 0 ∷ 1 ∷ [])
    ∷ [])

-- Proposition 0, and "plan": 5 steps, equal 0/1.
unfoldable pub five_steps : Bytes
five_steps = block ((0, 3 ∷ 0 ∷ 0 ∷ 2 ∷ []) ∷ (8, 2 ∷ []) ∷ (20, 8 ∷ 5 ∷ 0 ∷ 2 ∷ 0 ∷ 0 ∷ 0 ∷ 0 ∷ 1 ∷ []) ∷ [])

pub record Row : Type 0 where
  pub input : Bytes
  pub printed : String

row : Bytes → String → Row
row b t = record { input = b; printed = t }

unfoldable pub table : List Row
unfolding row
table =
    row (two_shelf ++ question) "yes 45/100 at plans 3 choices 1 2 0\n"
    ∷ row (two_shelf ++ first_gain) "yes -200/100 below plans 0 choices 0 2 0\n"
    ∷ row (two_shelf ++ not_both) "yes\n"
    ∷ row (two_shelf ++ leftover) "refused 13\n"
    ∷ row (two_shelf ++ deep_leftover) "refused 9\n"
    ∷ row (two_shelf ++ replicate 512 1) "refused 2\n"
    ∷ row (without_wait [] ++ three_steps) "yes 720/1000 at plans 7 choices 1 2 255 2 1 2 0\n"
    ∷ row (without_wait (2 ∷ 10 ∷ []) ++ three_steps) "refused 6\n"
    ∷ row (coins ++ five_steps) "refused 25\n"
    ∷ row (question ++ two_shelf) "refused 3\n"
    ∷ row question "refused 1\n"
    ∷ row (replicate 511 0) "refused 1\n"
    ∷ row (replicate 6657 0) "refused 1\n"
    ∷ []

chain_lines : map (λ r. answer_text verdict_says r.input) table ≡ map (λ r. text r.printed) table
unfolding table block two_shelf question first_gain leftover deep_leftover not_both without_wait three_steps coins five_steps flat_map is_empty all any every find keep product join count_from tabulate no_action true_of contradict mask prop_in enabled_actions deadlocked enabled stored outcomes sum related plans choices paths weight nonnegative relation formula_of formulas depth is_path shallow total one_if gain_between sat meets compared lamp leads is_equal bound_of goal shown leader verdict path_total multiply plan_total every_plan limits u16 u32 signed i16 i32 little_endian zeros within sum_below block_count whole_blocks word_sum sums_right headed literals state_mask pre_of post_count post_of cell_at outcome_of entries model_of kinds_right sizes_right mask_in_range literals_in_range action_in_range outcome_in_range cell_in_range fields_right action_spare head_spare row_spare rows_spare cell_spare cells_spare posts_contradict cell_consistent consistent read_model node_of formulas_of question_of compares gain_bound plan_bound plan_in_range span expected_bound earns_in_range node_in_range node_spare spare_zero formed children reaches all_reached read_question with_word_sum splice text decimal decimal_in signed_decimal refused_line plain_line lamp_word optional_word no_plans_line yes_plan_line bounds_plans verdict_line judged_text line_of answer_text
chain_lines = refl

map_same : {A B : Type 0} {f g : A → B} → ((x : A) → f x ≡ g x) → (l : List A) → map f l ≡ map g l
map_same h [] = refl
map_same h (x ∷ l) = ap₂ ◌∷◌ (h x) (map_same h l)

pub input_lines : map (λ r. printed r.input) table ≡ map (λ r. text r.printed) table
input_lines = map_same (λ r. printed_is r.input) table ∙ chain_lines

-- ---- what whynot prints

-- The question with 50/100.
unfoldable pub half : Bytes
half = block ((0, 3 ∷ 0 ∷ 0 ∷ 4 ∷ []) ∷ (8, 2 ∷ 0 ∷ 1 ∷ []) ∷ (20, 6 ∷ []) ∷ (32, 6 ∷ 0 ∷ 1 ∷ []) ∷ (44, 8 ∷ 2 ∷ 2 ∷ 2 ∷ 50 ∷ 0 ∷ 0 ∷ 0 ∷ 100 ∷ []) ∷ [])

unfoldable pub reasons : List Row
unfolding row
reasons =
    row (two_shelf ++ half) "below 45/100 choices 1 2 0\nabove 72/100 choices 0 2 0\n"
    ∷ row (two_shelf ++ question) "yes 45/100 at plans 3 choices 1 2 0\n"
    ∷ row (coins ++ five_steps) "refused 25\n"
    ∷ row question "refused 1\n"
    ∷ []

chain_reasons : map (λ r. answer_text whynot_says r.input) reasons ≡ map (λ r. text r.printed) reasons
unfolding reasons block two_shelf question half coins five_steps flat_map is_empty all any every find keep product join count_from tabulate no_action true_of contradict mask prop_in enabled_actions deadlocked enabled stored outcomes sum related plans choices paths weight nonnegative relation formula_of formulas depth is_path shallow total one_if gain_between sat meets compared lamp leads is_equal bound_of goal shown leader verdict path_total multiply plan_total every_plan limits u16 u32 signed i16 i32 little_endian zeros within sum_below block_count whole_blocks word_sum sums_right headed literals state_mask pre_of post_count post_of cell_at outcome_of entries model_of kinds_right sizes_right mask_in_range literals_in_range action_in_range outcome_in_range cell_in_range fields_right action_spare head_spare row_spare rows_spare cell_spare cells_spare posts_contradict cell_consistent consistent read_model node_of formulas_of question_of compares gain_bound plan_bound plan_in_range span expected_bound earns_in_range node_in_range node_spare spare_zero formed children reaches all_reached read_question with_word_sum splice text decimal decimal_in signed_decimal refused_line plain_line lamp_word optional_word no_plans_line yes_plan_line bounds_plans verdict_line judged_text line_of answer_text reached_line reason_text whynot_says foremost standing reason_for reason
chain_reasons = refl

pub input_reasons : map (λ r. explained r.input) reasons ≡ map (λ r. text r.printed) reasons
input_reasons = map_same (λ r. explained_is r.input) reasons ∙ chain_reasons
