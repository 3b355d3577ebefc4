-- moments and their numbers
pub mod Moments
-- what a policy means, what its blocks do, what it must show
pub mod Policy
-- the machine: step and answer
pub mod Machine
-- runs, their calls and answers, the events in them
pub mod Runs
-- numbers and instructions in bytes, by one list of opcodes
pub mod Words
-- sites and woven code
pub mod Weave
-- the check of one method
pub mod Check
-- the numbers and places of refusals
pub mod Refusals
-- fields
pub mod Fields
-- the file of an applet
pub mod Reading
-- fields as parts of their file
pub mod Parts
-- load, weave and check of files
pub mod Files
-- the three kinds of policies, and their files
pub mod Rules
pub mod Tables
pub mod Kinds
-- when weave writes, and what
pub mod Weaving
-- what was woven, stripped of its sites
pub mod Stripping
-- what areas hold after a call, and the calls on a policy
pub mod Areas
pub mod Calls
-- one policy kept beside a run
pub mod Watch
-- what enforcement means, over files and whole runs
pub mod Enforcement
-- examples, by computation
pub mod Examples
pub mod RefusedFiles
