use Rattle.std.proofs.Common.{rules}
use Rattle.applet.specs.Glances.{Seen, blind}
use Rattle.applet.proofs.Glancing.{made}
use Rattle.applet.proofs.glance.Glances.new.Goals as goal

pub invariant_of-result : goal.invariant_of-result
invariant_of-result c = record {
  -- the opcode is named c too: so the search reads the call, and none of the records behind the outer c
  seen = made (Seen c.args.methods) 64 _ c.from_fn.result blind (λ c q y l k. (λ j. record { 0 = k.met.1 j }, search rules)) c.from_fn.ensures.items;
}
