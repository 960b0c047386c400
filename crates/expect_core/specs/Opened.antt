-- The channels of a script: files that it reads or writes, and programs whose output it reads.
use Rattle.std.specs.Prelude.{ℕ, ◌+◌, List, [], ◌∷◌, ◌++◌, codes, drop, slice_index_or, slice_set, remove, Bool, true, false}
use Rattle.std.specs.Fmt.{decimal}
use Rattle.expect_core.specs.declared.channels.Channel.{Channel}
use Rattle.expect_core.specs.declared.own.Own.{Own}

-- The name of the channel of the child at a place.
abbrev pub name_at : ℕ → List ℕ
name_at i = codes "file" ++ decimal (i + 1)

-- A channel with these bytes to read. Closing it is an error with the text `ended`, unless that is empty.
abbrev pub reading : ℕ → List ℕ → List ℕ → Channel
reading i bytes ended = record { name = name_at i; child = i; reads = true; rest = bytes; met = false; ended = ended }

-- A channel whose bytes the child at a place takes.
abbrev pub writing : ℕ → Channel
writing i = record { name = name_at i; child = i; reads = false; rest = []; met = false; ended = [] }

-- The value in place of a missing channel.
abbrev pub no_channel : Channel
no_channel = record { name = []; child = 0; reads = true; rest = []; met = false; ended = [] }

abbrev pub channel_in : ℕ → List Channel → Channel
channel_in n cs = slice_index_or cs n no_channel

abbrev pub channel_of : ℕ → Own → Channel
channel_of n o = channel_in n o.channels

abbrev pub opened : Channel → Own → Own
opened c o = record o { channels = o.channels ++ c ∷ [] }

-- This many bytes were read, and the end was met or not.
abbrev pub with_moved : ℕ → ℕ → Bool → List Channel → List Channel
with_moved n count met cs = let c = channel_in n cs in slice_set cs n (record c { rest = drop count c.rest; met = met })

abbrev pub moved : ℕ → ℕ → Bool → Own → Own
moved n count met o = record o { channels = with_moved n count met o.channels }

abbrev pub let_go : ℕ → Own → Own
let_go n o = record o { channels = remove o.channels n }
