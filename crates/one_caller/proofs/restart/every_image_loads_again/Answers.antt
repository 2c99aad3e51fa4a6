-- The law of every restart.
use Rattle.one_caller.proofs.Restarts.{loads-between, loads-failed, loads-opened}
use Rattle.one_caller.proofs.restart.every_image_loads_again.Goals as goal

pub returns-clause-between : goal.returns-clause-between
returns-clause-between c = λ issuer shard old first last image held on left. loads-between issuer shard old first last image held on left

pub returns-clause-opened : goal.returns-clause-opened
returns-clause-opened c = λ issuer shard old history moment image text left. loads-opened issuer shard old history moment image text left

pub returns-clause-failed : goal.returns-clause-failed
returns-clause-failed c = λ issuer shard old_bytes old history moment image known text left.
    loads-failed issuer shard old history moment image text old_bytes known left
