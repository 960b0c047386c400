-- The meaning of scripts, and the rest of a run. Read first: Tree, Meaning, Unrolled and Suspended. Tree defines a
-- meaning as a tree of the host's calls, Meaning defines the tree of a script. Unrolled describes loops without a
-- bound, Suspended a run that stops and continues. Asked, Steps, Evaluated and Advanced define the words of single
-- contracts. The others concern the machine only and can be skipped. Rest is the rest of a machine's frames, Native the
-- rest after a function has returned, and Worth the rest of an expression. Potential shows that a run ends.
pub mod Tree
pub mod Meaning
pub mod Unrolled
pub mod Suspended
pub mod Asked
pub mod Steps
pub mod Evaluated
pub mod Advanced
pub mod Rest
pub mod Potential
pub mod Worth
pub mod Handed
pub mod Alone
pub mod Native
