-- What a list of calls from the empty desk is answered, told by the list: each call by what the history of those before it holds. Document
-- 01: each call "yields the answer, the buffer bytes and the desk contents described here".
use Rattle.std.specs.Prelude.{List, [], ◌∷◌, ◌++◌}
use Rattle.protocol.specs.Calls.{Call, Reply, yields}
use Rattle.protocol.specs.History.{after}

-- The replies to further calls, after a list of calls.
unfoldable pub replies_after : List Call → List Call → List Reply
replies_after before [] = []
replies_after before (c ∷ cs) = yields (after before) c ∷ replies_after (before ++ (c ∷ [])) cs

-- The replies to a list of calls.
abbrev pub replies_to : List Call → List Reply
replies_to cs = replies_after [] cs

-- What the calls reply: to a call made after a list of calls on a desk that began empty.
abbrev pub Session : Type 0
Session = List Call → Call → Reply
