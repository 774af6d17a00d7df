-- The sizes of requests and of proofs.
use Rattle.std.proofs.Common.{◌≡◌, ℕ, List, [], ◌∷◌, map, length, replicate, Ok, sym, refl, ◌∙◌, subst}
use Rattle.std.specs.List.{range_with_len}
use Rattle.fault.specs.declared.Layer.TheVariants.{Frame}
use Rattle.octets.specs.Numbers.{Bytes}
use Rattle.record.specs.Formats.{written}
use Rattle.record.proofs.Keeping.{reading}
use Rattle.entry.specs.Bodies.{SealedBody}
use Rattle.proof.proofs.Sizing.{known_sizes}
use Rattle.request.specs.Bodies.{RequestBody, RequestIn, read_request, request_fields, request_format, request_rules}
use Rattle.request.specs.Sizes.{RequestSize, size_of}
use Rattle.request.proofs.Requests.{coding, live}
use Rattle.request.proofs.Sizing.{sized}
use Rattle.history.specs.Events.{width}
use Rattle.worked.specs.Sizes.{FrameOf, OneByte, ProofSizes, RequestSizes}

-- the size of an accepted frame
accepted_size : (frame : List ℕ) (b : RequestBody) → Bytes frame → read_request width frame ≡ Ok b → RequestSize width b (length frame)
accepted_size frame b all is =
    let ok = (reading Frame (request_format width) (request_rules width) (request_fields width) (RequestIn width) (coding width) frame (live width) all).accepted b is in
    subst (λ l. RequestSize width b (length l)) (sym ok.2) (sized width b ok.0)

small_size : (frame : List ℕ) (b : RequestBody) → RequestSize width b (length frame) → OneByte b → length frame ≡ 60
small_size frame b size is = size.alike 1 is.values ∙ (λ i. size_of width (is.reads i) (is.writes i) 1)

-- a request with n reads and m writes of k bytes
sample : ℕ → ℕ → ℕ → RequestBody
sample n m k = record {
  client = 0;
  sequence = 0;
  reads = map (λ x. record { item = x; version = 0; digest = replicate 32 0 }) (range_with_len 0 n);
  writes = map (λ x. record { item = x; value = replicate k 0 }) (range_with_len 0 m);
  tag = replicate 16 0;
}

small-occurs : FrameOf OneByte 60
unfolding sample
small-occurs = (written (request_fields width (sample 1 1 1)), (sample 1 1 1, (refl, record { reads = refl; writes = refl; values = (refl, tt) }, refl)))

most-occurs : FrameOf (λ b. Unit {0}) 854
unfolding sample
most-occurs = (written (request_fields width (sample 16 8 32)), (sample 16 8 32, (refl, tt, refl)))

pub request_sizes : RequestSizes
request_sizes = record {
  small = λ frame b all is one. small_size frame b (accepted_size frame b all is) one;
  small-occurs = small-occurs;
  most = λ frame b all is. (accepted_size frame b all is).most;
  most-occurs = most-occurs;
}

-- a proof of one entry of two writes, with the tags of two boards
two-writes : SealedBody
two-writes = record {
  entry = record { version = 1; items = record { item = 0; digest = replicate 32 0 } ∷ record { item = 1; digest = replicate 32 0 } ∷ [] };
  pairs = record { signer = 0; tag = replicate 16 0 } ∷ record { signer = 1; tag = replicate 16 0 } ∷ [];
}

pub proof_sizes : ProofSizes
unfolding two-writes
proof_sizes = record {
  known = known_sizes;
  small-occurs = (record { low = 1; high = 1; entries = two-writes ∷ [] }, (two-writes, (refl, refl, refl)));
}
