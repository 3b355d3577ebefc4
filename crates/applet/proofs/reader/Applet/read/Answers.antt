use Rattle.std.proofs.Common.{ℕ, ◌<◌, sym, refl, ap, ◌∙◌, subst}
use lib.ListN.{length-map}
use Rattle.model.proofs.Accepted.{accepted}
use Rattle.applet.proofs.Loops.{failed, bytes_from}
use Rattle.applet.proofs.Staging.{built, staged_is, staged_stands}
use Rattle.applet.specs.Applets.{found, read_seen}
use Rattle.applet.proofs.reader.Applet.read.Goals as goal

pub returns-in_err-layout-clause-value : goal.returns-in_err-layout-clause-value
returns-in_err-layout-clause-value c =
    ap read_seen (failed c.from_residual.result _ c.from_residual.ensures.1) ∙ ap (built c.args.file.now) c.in_err-layout.ensures ∙ staged_is c.args.file.now

pub returns : goal.returns
returns c =
    let f = c.args.file.now in
    let v = ap (built f) c.in_ok-layout.ensures ∙ staged_is f in
    let k = accepted f _ (sym v) in
    record {
      value = v;
      file = refl;
      kept = record { valid = k.1; written = k.0 (bytes_from f (λ i. (c.type_inv.file i).fits)) };
      places = λ m h. staged_stands f (found c.in_ok-layout.layout) (sym c.in_ok-layout.ensures) m (subst (λ (k : ℕ). m < k) (length-map _ _) h);
    }
