use Rattle.std.proofs.Common.{length-append, rules}
use Rattle.digest.specs.Fnv.{basis, fnv_words}
use Rattle.digest.proofs.Hashes.{hashed-append}
use Rattle.digest.proofs.FnvDigest.words.Goals as goal

pub returns : goal.returns
unfolding fnv_words
returns c =
    let h = hashed-append basis c.args.head.now c.args.rest.now in
    let l = length-append c.args.head.now c.args.rest.now in
    let a = c.fold.ensures in
    let b = c.fold-2.ensures in
    (search rules, cc)
