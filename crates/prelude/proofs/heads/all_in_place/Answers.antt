-- The definitions are few enough to be numbered, and each has a head.
use Rattle.std.proofs.Common.{◌<◌, length, inl, refl, arith}
use Rattle.prelude.specs.Passes.{files_in}
use Rattle.prelude.proofs.Files.{listed-length, listed-first}
use Rattle.prelude.proofs.heads.all_in_place.Goals as goal

pub bounds-file-0 : goal.bounds-file-0
bounds-file-0 c =
    let it = c.loop-place.place-iterator.iter in
    omega (arith, listed-first it.count it.bytes.now _ _ it.whole c.in-Some.ensures.steps.0)

pub bounds-file-1 : goal.bounds-file-1
bounds-file-1 c =
    let it = c.loop-place.place-iterator.iter in
    omega (arith, listed-first it.count it.bytes.now _ _ it.whole c.in-Some.ensures.steps.0)

pub loop-place-init : goal.loop-place-init
loop-place-init c =
    let ds = c.args.definitions in
    let few : length (files_in ds) < 65536 = omega (arith, ds.few, listed-length ds.count ds.bytes.now ds.whole) in
    rw (c.into_iter-place-iterator.ensures.into_iter_gives, c.enumerate-place-items.ensures.source, c.enumerate-place-items.ensures.count)
    (record { can = (tt, tt, inl (omega arith)); ends = tt; same = refl })
