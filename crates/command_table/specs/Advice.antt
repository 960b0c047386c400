-- What to use instead of commands of Tcl(n) and expect(1) that have no row, as in docs/FOR_EXPECT_USERS.md.
-- Empty if the page has no advice.
use Rattle.std.specs.Prelude.{ℕ, ◌||◌, List, [], ◌∷◌, codes, bytes_eq, if◌then◌else◌}

abbrev pub waiting : List ℕ → List ℕ
waiting word =
    if bytes_eq word (codes "update") || bytes_eq word (codes "vwait") then codes "expect waits"
    else if bytes_eq word (codes "time") then codes "a record has the time of each event"
    else []

abbrev pub choosing : List ℕ → List ℕ
choosing word =
    if bytes_eq word (codes "case") then codes "use switch"
    else if bytes_eq word (codes "apply") then codes "use proc"
    else if bytes_eq word (codes "try") then codes "use catch"
    else if bytes_eq word (codes "throw") then codes "use error"
    else if bytes_eq word (codes "uplevel") then codes "use global, or return the value"
    else if bytes_eq word (codes "namespace") || bytes_eq word (codes "variable") then codes "use a prefix of the names"
    else []

abbrev pub lists : List ℕ → List ℕ
lists word =
    if bytes_eq word (codes "dict") then codes "use the elements of an array"
    else if bytes_eq word (codes "lmap") then codes "use foreach and lappend"
    else []

abbrev pub texts : List ℕ → List ℕ
texts word =
    if bytes_eq word (codes "binary") || bytes_eq word (codes "encoding") then codes "texts are bytes"
    else []

abbrev pub files : List ℕ → List ℕ
files word =
    if bytes_eq word (codes "seek") || bytes_eq word (codes "tell") || bytes_eq word (codes "fconfigure") || bytes_eq word (codes "fcopy") || bytes_eq word (codes "fileevent") || bytes_eq word (codes "fblocked") || bytes_eq word (codes "socket") then codes "use a child that reads or writes: spawn cat FILE"
    else if bytes_eq word (codes "cd") then codes "use spawn sh -c {cd folder && exec program}"
    else if bytes_eq word (codes "glob") then codes "use exec ls"
    else []

abbrev pub telling : List ℕ → List ℕ
telling word =
    if bytes_eq word (codes "send_tty") || bytes_eq word (codes "send_log") then codes "use send_user"
    else if bytes_eq word (codes "exp_send_tty") || bytes_eq word (codes "exp_send_log") then codes "use send_user"
    else if bytes_eq word (codes "tclLog") then codes "use puts"
    else if bytes_eq word (codes "log_file") || bytes_eq word (codes "exp_log_file") then codes "the report has the transcript; --record writes every event"
    else []

abbrev pub expecting : List ℕ → List ℕ
expecting word =
    if bytes_eq word (codes "interact") || bytes_eq word (codes "exp_interact") then codes "keep expect for scripts that interact"
    else if bytes_eq word (codes "expect_user") || bytes_eq word (codes "expect_tty") then codes "set the answer at the top of the script"
    else if bytes_eq word (codes "expect_background") then codes "use several -i in one expect"
    else []

abbrev pub starting : List ℕ → List ℕ
starting word =
    if bytes_eq word (codes "stty") || bytes_eq word (codes "exp_stty") then codes "set stty_init before the spawn"
    else if bytes_eq word (codes "fork") || bytes_eq word (codes "exp_fork") then codes "run several scripts together"
    else if bytes_eq word (codes "disconnect") || bytes_eq word (codes "exp_disconnect") then codes "start exprun in the background: nohup exprun run FILE &"
    else []

-- The first of two texts unless it is empty, otherwise the second.
abbrev pub first_of : List ℕ → List ℕ → List ℕ
first_of [] other = other
first_of (b ∷ bytes) other = b ∷ bytes

unfoldable pub advice_for : List ℕ → List ℕ
advice_for word = first_of (waiting word) (first_of (choosing word) (first_of (lists word) (first_of (texts word) (first_of (files word) (first_of (telling word) (first_of (expecting word) (starting word)))))))
