use Rattle.shares.proofs.WriteLaws.{build_room, reverse_room, share_written}
use Rattle.shares.proofs.write_share.Goals as goal

pub build-requires : goal.build-requires
build-requires c = build_room c.requires

pub append_reversed-requires : goal.append_reversed-requires
append_reversed-requires c = reverse_room c.requires c.build.ensures

pub returns : goal.returns
returns c = share_written c.requires c.build.ensures c.append_reversed.ensures
