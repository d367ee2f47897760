-- The bytes of one more write follow those that the writer took before.
use Rattle.std.proofs.Common.{◌++◌, rules, ap, ◌∙◌, subst, sym, take}
use Rattle.std.proofs.lemmas.List.{take_rest}
use Rattle.std.specs.Io.KnownBytes.{Appends}
use Rattle.std.proofs.KnownBytes.{Appends-trans}
use lib.Seq.{take-add}
use Rattle.streams.proofs.write_all.Goals as goal

pub loop-done-preserved : goal.loop-done-preserved
loop-done-preserved g c =
    let done = c.loop-done.done in
    let all = c.args.bytes.now in
    let n = c.in-Ok.taken in
    let joined = ap (λ l. take done all ++ take n l) (take_rest all done) ∙ sym (take-add done n all) in
    (search rules, subst (Appends _ _) joined (Appends-trans _ _ _ _ _ c.loop-done.invariant.1 c.in-Ok.ensures.bytes))
