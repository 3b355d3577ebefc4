-- The number and the place of each refusal.
use Rattle.std.specs.Prelude.{ℕ, Option, Some, None}
use Rattle.std.specs.Option.{unwrap_or}
use Rattle.model.specs.declared.Refusal.{Refusal}
use Rattle.model.specs.declared.Refusal.TheVariants.{AreaTooShort, NoThread, NotAwaiting, StillAwaiting, ThreadEnded, MachineStopped, LockHeld, NoSuchEvent, BadField, BadSize, BadInstruction, BadLanding, NotPlain, MethodTooLong, FileTooLong, BadPolicyField, BadPolicySize, BadExpression, SecondRow, BlockTooLong, TooManyCells, OtherStarts, OutsideSite, OffSite, NoEntry}

-- the number by which a refusal is known
abbrev pub number : Refusal → ℕ
number AreaTooShort = 1
number NoThread = 2
number NotAwaiting = 3
number StillAwaiting = 4
number ThreadEnded = 5
number MachineStopped = 6
number LockHeld = 7
number NoSuchEvent = 8
number (BadField p) = 10
number (BadSize p) = 11
number (BadInstruction p) = 12
number (BadLanding p) = 13
number (NotPlain p) = 14
number (MethodTooLong p) = 15
number FileTooLong = 16
number (BadPolicyField p) = 20
number (BadPolicySize p) = 21
number (BadExpression p) = 22
number (SecondRow p) = 23
number BlockTooLong = 24
number TooManyCells = 25
number (OtherStarts p) = 30
number (OutsideSite p) = 31
number (OffSite p) = 32
number (NoEntry p) = 33

-- the offset at which the file is at fault, if one is
abbrev pub location : Refusal → Option ℕ
location AreaTooShort = None
location NoThread = None
location NotAwaiting = None
location StillAwaiting = None
location ThreadEnded = None
location MachineStopped = None
location LockHeld = None
location NoSuchEvent = None
location (BadField p) = Some p
location (BadSize p) = Some p
location (BadInstruction p) = Some p
location (BadLanding p) = Some p
location (NotPlain p) = Some p
location (MethodTooLong p) = Some p
location FileTooLong = None
location (BadPolicyField p) = Some p
location (BadPolicySize p) = Some p
location (BadExpression p) = Some p
location (SecondRow p) = Some p
location BlockTooLong = None
location TooManyCells = None
location (OtherStarts p) = Some p
location (OutsideSite p) = Some p
location (OffSite p) = Some p
location (NoEntry p) = Some p

-- the same, 0 if none is
abbrev pub place : Refusal → ℕ
place r = unwrap_or (location r) 0
