-- What grounds 1 and 4 have found before ground 5 is looked at: whole blocks, and the sizes that the head gives.
use Rattle.std.specs.Prelude.{true, ◌≡◌}
use Rattle.blocks.specs.Bytes.{Bytes}
use Rattle.blocks.specs.Block.{whole_blocks}
use Rattle.models.specs.Grounds.{sizes_right}

pub record Earlier (b : Bytes) : Type 0 where
  pub whole : whole_blocks 2 12 b ≡ true
  pub sizes : sizes_right b ≡ true
