use Rattle.flat.specs.Full.{full_within}
use Rattle.flat.proofs.reading.FilesReading.width.Goals as goal

pub returns-clause-full : goal.returns-clause-full
returns-clause-full g c =
    let self = c.args.self.now in
    full_within (g.B.AsSlice.items self.bytes) self.sizes.files self.sizes.width self.laid
