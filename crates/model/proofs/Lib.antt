-- options, lists and blocks
pub mod Options
pub mod Base
-- what is written is read back, what is read is valid, and where it stands
pub mod Moments
pub mod Words
pub mod RoundTrip
pub mod Accepted
pub mod Places
pub mod Fetching
pub mod Parts
-- check accepts exactly woven code
pub mod Targets
pub mod WovenCode
pub mod CheckWalk
pub mod CheckEntries
pub mod CheckMethod
-- a woven applet is valid
pub mod WovenValid
-- runs of the woven and of the plain applet
pub mod Simulation
pub mod SimulationSteps
pub mod Faithful
pub mod FaithfulRuns
pub mod Transparent
-- when weave writes
pub mod Weaving
-- enforcement over files
pub mod EnforcedFiles
-- stripping undoes weaving
pub mod Stripping
-- the three kinds show what they must
pub mod BlockRuns
pub mod SignedCells
pub mod Tidy
pub mod RuleBlocks
pub mod TableBlocks
pub mod PairBlocks
-- policy files
pub mod PolicyRoundTrip
pub mod PolicyAccepted
pub mod EnforcedPolicies
pub mod TableFiles
pub mod PolicyKinds
-- the calls on a policy, and the watch
pub mod Rows
pub mod Watch
-- examples
pub mod Examples
pub mod RefusedFiles
-- the file of a rule policy
pub mod RuleFiles
