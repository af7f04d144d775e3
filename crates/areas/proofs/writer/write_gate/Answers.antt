use Prim.Native.Nat.{ℕ}
use mathlib.Core.Path.{ap, ◌∙◌}
use lib.Seq.{sets}
use Rattle.gate_bytes.specs.GateBytes.{gate_bytes}
use Rattle.areas.proofs.WriterLaws.{put_one}
use Rattle.areas.proofs.writer.write_gate.Goals as goal

pub returns : goal.returns
returns c =
    c.put_gate.ensures
    ∙ ap (λ (at : ℕ). sets c.args.area.now at (gate_bytes c.args.gate)) c.file_length.ensures
    ∙ put_one c.args.area.now c.args.k c.args.gate
