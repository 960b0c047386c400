-- How a file is written, by the kind of file that has its name now.
use Rattle.std.specs.Prelude.{ℕ, List, [], ◌∷◌, length, take, drop, codes, Bool, true, false, ◌&&◌, ◌||◌, not, if◌then◌else◌}
use Rattle.std.specs.Str.{bytes_eq, all_ascii_digits}
use Rattle.product_files.specs.declared.way.Found.{Found}
use Rattle.product_files.specs.declared.way.Found.TheVariants.{Nothing, File, Link, Fifo, CharacterDevice, BlockDevice, Socket, Folder}
use Rattle.product_files.specs.declared.way.Way.{Way}
use Rattle.product_files.specs.declared.way.Way.TheVariants.{Beside, Directly, Refused}

-- A decimal number of one or more digits.
abbrev pub is_number : List ℕ → Bool
is_number [] = false
is_number (d ∷ ds) = all_ascii_digits (d ∷ ds)

-- A prefix followed by a number.
abbrev pub is_numbered : List ℕ → List ℕ → Bool
is_numbered front name = bytes_eq (take (length front) name) front && is_number (drop (length front) name)

-- The names of the system for the descriptors of the calling process.
abbrev pub is_descriptor : List ℕ → Bool
is_descriptor name =
    bytes_eq name (codes "/dev/stdin")
    || bytes_eq name (codes "/dev/stdout")
    || bytes_eq name (codes "/dev/stderr")
    || is_numbered (codes "/dev/fd/") name
    || is_numbered (codes "/proc/self/fd/") name

-- A file or a link is replaced by a new file. A pipe or a character device is written directly, because it keeps no
-- bytes.
abbrev pub way_of_found : Found → Way
way_of_found Nothing = Beside
way_of_found File = Beside
way_of_found Link = Beside
way_of_found Fifo = Directly
way_of_found CharacterDevice = Directly
way_of_found BlockDevice = Refused
way_of_found Socket = Refused
way_of_found Folder = Refused

-- How a file with a name given by the user is written.
abbrev pub way_of : List ℕ → Found → Way
way_of name found = if is_descriptor name then Directly else way_of_found found

-- How a file in a folder given by the user is written. The user named no pipe or device there.
abbrev pub page_way_of : Found → Way
page_way_of Nothing = Beside
page_way_of File = Beside
page_way_of Link = Beside
page_way_of Fifo = Beside
page_way_of CharacterDevice = Beside
page_way_of BlockDevice = Beside
page_way_of Socket = Beside
page_way_of Folder = Refused
