use Rattle.promise.proofs.Ends.{kept, compared}
use Rattle.promise.proofs.compare.Goals as goal

pub returns : goal.returns
returns g c =
    let club = c.opened-at_club.ensures in
    let own = c.run.ensures in
    let later = c.run-3.ensures in
    let server = c.opened-at_server.ensures in
    let own' = c.run-2.ensures in
    let later' = c.run-4.ensures in
    compared
    (kept club.shape club.new club.board_bytes club.lower_bytes
    (record { told = own.told; after = own.after; shape = own.shape })
    (record { told = later.told; after = later.after; shape = later.shape }))
    (kept server.shape server.new server.board_bytes server.lower_bytes
    (record { told = own'.told; after = own'.after; shape = own'.shape })
    (record { told = later'.told; after = later'.after; shape = later'.shape }))
