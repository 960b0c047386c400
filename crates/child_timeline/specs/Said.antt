-- The timeline of a text: a cast, a typescript, or lines of a timeline.
use Rattle.std.specs.Prelude.{ℕ, List, if◌then◌else◌, Result}
use Rattle.child_timeline.specs.declared.fault.TimelineFault.{TimelineFault}
use Rattle.child_timeline.specs.declared.timeline.Timeline.{Timeline}
use Rattle.child_timeline.specs.Timeline.{timeline_of}
use Rattle.child_timeline.specs.Cast.{is_cast, cast_of}
use Rattle.child_timeline.specs.Typescript.{is_typescript, typescript_of}

abbrev pub said_of : List ℕ → Result Timeline TimelineFault
said_of text =
    if is_cast text then cast_of text
    else if is_typescript text then typescript_of text
    else timeline_of text
