-- The bytes written, and after them the lowest bytes of what is left of the number, are the number's bytes.
use Rattle.std.proofs.Common.{◌≡◌, ◌++◌, ◌-◌, take}
use Rattle.blocks.specs.Bytes.{little_endian}
use Rattle.blocks.proofs.buffers.put_number.Given as goal

abbrev pub invariant-loop-place : goal.invariant-loop-place
invariant-loop-place l = take l.place-index l.place-items ++ little_endian (l.bytes - l.place-index) l.rest ≡ little_endian l.bytes l.x
