use Rattle.std.proofs.Common.{◌≡◌, ℕ, List, length, refl, ◌∙◌, arith}
use Rattle.std.proofs.lemmas.List.{take_rest}
use Rattle.sha256.proofs.Joined.{joined-short, joined-long}
use Rattle.sha256.proofs.message.hash_joined.Goals as goal

pub returns-then-rest-room : goal.returns-then-rest-room
returns-then-rest-room c =
    c.finish.ensures
    ∙ joined-short c.args.h c.args.tail.now c.args.rest.now c.join.new.bytes c.args.n _ (omega arith) c.join.ensures

pub returns-else-rest-room : goal.returns-else-rest-room
returns-else-rest-room c =
    let tail : List ℕ = c.args.tail.now in
    let rest : List ℕ = c.args.rest.now in
    let room : ℕ = c.missing-room.result in
    let bytes : List ℕ = c.join-else-rest-room.new.bytes in
    let lb : length bytes ≡ 64 = omega arith in
    c.hash_after.ensures
    ∙ joined-long c.args.h tail rest bytes c.compress-s.result _ c.args.n room room c.missing-room.ensures
    c.if-rest-room.false lb refl c.join-else-rest-room.ensures c.compress-s.ensures (take_rest rest room)
