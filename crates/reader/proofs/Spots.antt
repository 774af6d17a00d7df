-- An item of a reading that is read in place, by its index: what it holds, where it stands, and the versions before it.
use Rattle.std.proofs.Common.{◌≡◌, ℕ, zero, suc, ◌+◌, ◌<◌, ◌≤◌, min, max, List, [], ◌∷◌, map, length, get_or, take, Some, None, Option, sym, refl, ap, ◌∙◌, arith}
use Rattle.std.specs.Iterator.{Yields, YieldsFirstBy}
use Rattle.std.specs.Option.{MatchOption, option_map, unwrap_or}
use Rattle.std.specs.List.{slice_get, flat_map, fold, reduce}
use Rattle.std.proofs.lemmas.Iterator.Consumers.{YieldsList-from_first, nth_from_yields_List}
use Rattle.std.proofs.lemmas.List.{length-append}
use Rattle.record.specs.Rules.{Spot, spots}
use Rattle.record.specs.Runs.{spotted}
use Rattle.reading.specs.Bodies.{ReadingItemBody, read_item_item, reading_item_fields}
use Rattle.reading.specs.Marks.{read_item_body, read_item_number, read_item_place}
use Rattle.reading.specs.Plans.{planned}
use Rattle.record.specs.declared.records.Records.{Records}
use Rattle.reading.specs.Readings.{Found, ItemsFound, held, item_of, item_seen, item_shown, item_view, item_views, items_left}
use Rattle.reading.specs.declared.mark.ItemAt.{ItemAt}
use Rattle.reading.specs.declared.Reading.{Reading}
use Rattle.reading.specs.declared.ReadingItem.{ReadingItem}
use Rattle.history.specs.Events.{width}
use Rattle.reader.specs.Checks.{highest, items_at, lowest, read_item_bytes}

abbrev pub View : Type 0
View = ReadingItemBody × ℕ

some_view : {A : Type 0} → (v : View) → ◌≡◌ {A = Option View} (Some v) None → A
some_view v e = let z : ◌≡◌ {A = ℕ} 0 1 = cc in absurd (omega arith)

same_view : (v w : View) → ◌≡◌ {A = Option View} (Some v) (Some w) → v ≡ w
same_view v w e = cc

module _ (bs : List ℕ) where
  view_at : (ms : List ItemAt) (i : ℕ) (v : View) → ◌≡◌ {A = Option View} (Some v) (slice_get (map (item_view bs) ms) i)
      → (i < length (map (read_item_body 2 bs) ms)) × ((d : ReadingItemBody) → get_or (map (read_item_body 2 bs) ms) i d ≡ v.0)
  view_at [] i v e = some_view v e
  view_at (m ∷ ms) zero v e = (omega arith, λ d. sym (ap (λ (w : View). w.0) (same_view v (item_view bs m) e)))
  view_at (m ∷ ms) (suc i) v e = let r = view_at ms i v e in let lt = r.0 in (omega arith, r.1)

  view_past : (ms : List ItemAt) (i : ℕ) → ◌≡◌ {A = Option View} None (slice_get (map (item_view bs) ms) i) → length (map (read_item_body 2 bs) ms) ≤ i
  view_past [] i e = omega arith
  view_past (m ∷ ms) zero e = some_view (item_view bs m) (sym e)
  view_past (m ∷ ms) (suc i) e = let r = view_past ms i e in omega arith

  place_at : (at : ℕ) (ms : List ItemAt) (ps : List ReadingItemBody) (i : ℕ) (v : View) → spotted read_item_number read_item_place ms ≡ spots read_item_item (reading_item_fields width) at ps
      → ◌≡◌ {A = Option View} (Some v) (slice_get (map (item_view bs) ms) i) → v.1 ≡ at + length (flat_map read_item_bytes (take i ps))
  place_at at [] ps i v same e = some_view v e
  place_at at (m ∷ ms) [] i v same e = let n = ap length same in absurd (omega arith)
  place_at at (m ∷ ms) (p ∷ ps) zero v same e =
      let here : v.1 ≡ m.place = ap (λ (w : View). w.1) (same_view v (item_view bs m) e) in
      let there : m.place ≡ at = ap (λ (ss : List Spot). (get_or ss 0 (record { number = 0; place = 0 })).place) same in
      omega arith
  place_at at (m ∷ ms) (p ∷ ps) (suc i) v same e =
      let rest : spotted read_item_number read_item_place ms ≡ spots read_item_item (reading_item_fields width) (at + length (read_item_bytes p)) ps = cc in
      let ih = place_at (at + length (read_item_bytes p)) ms ps i v rest e in
      let n = length-append (read_item_bytes p) (flat_map read_item_bytes (take i ps)) in
      omega arith

-- an item as the frame holds it
abbrev pub item_read : ReadingItem → ReadingItemBody
item_read r = record { item = r.item; version = r.version; value = r.value.now }

module _ (q : Reading) (i : ℕ) (bs : List ℕ) (found : Found bs q) where
  pub item_at : (r : ReadingItem) → item_seen (Some r) ≡ item_of q i → (i < length (held q).items) × ((d : ReadingItemBody) → get_or (held q).items i d ≡ item_read r)
  item_at r e = view_at q.frame.now (planned q.plan).items i (item_read r, r.place) (e ∙ found.each_item i)

  pub item-place : (r : ReadingItem) → item_seen (Some r) ≡ item_of q i → r.place ≡ items_at + length (flat_map read_item_bytes (take i (held q).items))
  item-place r e = place_at q.frame.now items_at (planned q.plan).items (held q).items i (item_read r, r.place) found.places (e ∙ found.each_item i)

  pub item_past : item_seen None ≡ item_of q i → length (held q).items ≤ i
  item_past e = view_past q.frame.now (planned q.plan).items i (e ∙ found.each_item i)

-- the item that comes behind others is that at their count, and none comes behind the last
pub item_came : {q : Reading} {first it : Records ItemAt} (t : Records ItemAt) (xs : List ReadingItem) (o : Option ReadingItem) (u : Records ItemAt) → (ItemsFound q → items_left first ≡ item_views q) → it ≡ first
    → Yields (YieldsFirstBy item_shown items_left) it xs t → YieldsFirstBy item_shown items_left t o u → (bs : List ℕ) → Found bs q → item_seen o ≡ item_of q (length xs)
item_came {q} {first} {it} t xs o u start same e gives bs found =
    seen o ∙ nth_from_yields_List o u (length xs) (xs, (t, e, gives), counted o) (YieldsList-from_first item_shown items_left (item_views q) (ap items_left same ∙ start found.each_item)) ∙ sym (found.each_item (length xs))
  where
    seen : (r : Option ReadingItem) → item_seen r ≡ option_map item_shown r
    seen (Some r) = refl
    seen None = refl

    counted : (r : Option ReadingItem) → MatchOption r (length xs ≤ length xs) (λ _. length xs ≡ length xs)
    counted (Some r) = refl
    counted None = omega arith

-- the highest and the lowest version, as they are picked one after the other
abbrev pub version_read : ReadingItemBody → ℕ
version_read p = p.version

highest-from : (a : ℕ) (ps : List ReadingItemBody) → fold max a (map version_read ps) ≡ max a (highest ps)
highest-from a [] = omega arith
highest-from a (p ∷ ps) = highest-from (max a p.version) ps ∙ omega arith

lowest-from : (a : ℕ) (p : ReadingItemBody) (ps : List ReadingItemBody) → fold min a (map version_read (p ∷ ps)) ≡ min a (lowest (p ∷ ps))
lowest-from a p [] = refl
lowest-from a p (q ∷ ps) = lowest-from (min a p.version) q ps ∙ omega arith

pub highest-picked : (ps : List ReadingItemBody) → unwrap_or (reduce max (map version_read ps)) 0 ≡ highest ps
highest-picked [] = refl
highest-picked (p ∷ ps) = highest-from p.version ps

pub lowest-picked : (ps : List ReadingItemBody) → unwrap_or (reduce min (map version_read ps)) 0 ≡ lowest ps
lowest-picked [] = refl
lowest-picked (p ∷ []) = refl
lowest-picked (p ∷ (q ∷ ps)) = lowest-from p.version q ps

pub versions_seen : (bs : List ℕ) (ms : List ItemAt) → map (λ (v : View). v.0.version) (map (item_view bs) ms) ≡ map version_read (map (read_item_body 2 bs) ms)
versions_seen bs [] = refl
versions_seen bs (m ∷ ms) = ap (λ ns. (read_item_body 2 bs m).version ∷ ns) (versions_seen bs ms)
