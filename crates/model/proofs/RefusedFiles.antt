-- Files that are refused, by computation.
use Rattle.std.proofs.Common.{refl}
use Rattle.model.specs.Words.{table, decode}
use Rattle.model.specs.Fields.{expect, fields, over, field, ◌>>=◌}
use Rattle.model.specs.RefusedFiles.{Refused, Listed}

pub refused : Refused
unfolding table decode expect fields over field ◌>>=◌
refused = record { reading = refl; policy_reading = refl; checking = refl; weaving = refl }

pub listed : Listed
unfolding table
listed = refl
