-- Which call a line asks for.
use Rattle.std.specs.Prelude.{◌≡◌, ℕ, ◌+◌, ◌*◌, Bool, cond, ◌&&◌, List, length, take, Some, None, Option, ◌==◌, nat_le, slice_index}
use Rattle.std.proofs.Common.{Bor}
use Rattle.lines.specs.declared.call.Call.{Call}
use Rattle.lines.specs.declared.call.Call.TheVariants.{Deliver, Item, Mark, Proof, ShareIn, ShareOut}
use Rattle.lines.specs.Hex.{unhex}

-- A call as a line asks for it; a request and a share are the bytes of their frames.
pub data LineCall : Type 0 where
  deliver : (frame : List ℕ) → LineCall
  share_in : (frame : List ℕ) → LineCall
  proof : (low high : ℕ) → LineCall
  item : (number : ℕ) → LineCall
  mark : LineCall
  share_out : (version : ℕ) → LineCall

-- the call that a value of the code stands for
abbrev pub asks_for : Call → LineCall
asks_for (Deliver frame) = deliver frame.now
asks_for (ShareIn frame) = share_in frame.now
asks_for (Proof low high) = proof low high
asks_for (Item number) = item number
asks_for Mark = mark
asks_for (ShareOut version) = share_out version

-- the same, where there may be none
abbrev pub may_ask_for : Option Call → Option LineCall
may_ask_for (Some call) = Some (asks_for call)
may_ask_for None = None

-- the bytes of a version on the wire
abbrev pub width : ℕ
width = 2

-- the longest frame, a request of 16 reads and 8 writes of 32 bytes
abbrev pub longest_frame : ℕ
longest_frame = 4 + width + 16 * (1 + width + 32) + 8 * (2 + 32) + 16

-- the longest line: two digits for each byte of the longest frame
abbrev pub line_limit : ℕ
line_limit = 2 * longest_frame

-- what is kept of a line: all of one that is not too long, and of a longer one enough to see that it is
abbrev pub kept_of : List ℕ → List ℕ
kept_of line = take (line_limit + 1) line

-- a number of two bytes, high byte first
abbrev pub pair_at : List ℕ → ℕ → ℕ
pair_at bs i = slice_index bs i * 256 + slice_index bs (i + 1)

-- a frame of a kind, of any length
abbrev pub is_kind : ℕ → List ℕ → Bool
is_kind k bs = nat_le 1 (length bs) && slice_index bs 0 == k

-- a frame of a kind and of one length
abbrev pub is_whole : ℕ → ℕ → List ℕ → Bool
is_whole k n bs = length bs == n && slice_index bs 0 == k

-- the call of a frame: 01 request, 02 share, 03 low high, 06 item, 07, 08 version; none for any other
abbrev pub call_of : List ℕ → Option LineCall
call_of bs =
    cond (is_kind 1 bs) (Some (deliver bs))
    (cond (is_kind 2 bs) (Some (share_in bs))
    (cond (is_whole 3 5 bs) (Some (proof (pair_at bs 1) (pair_at bs 3)))
    (cond (is_whole 6 2 bs) (Some (item (slice_index bs 1)))
    (cond (is_whole 7 1 bs) (Some mark)
    (cond (is_whole 8 3 bs) (Some (share_out (pair_at bs 1))) None)))))

-- the call of bytes, where a line has bytes
abbrev pub call_of_bytes : Option (List ℕ) → Option LineCall
call_of_bytes (Some bs) = call_of bs
call_of_bytes None = None

-- the call of a line: none for one that is too long, odd or not hexadecimal
abbrev pub line_call : List ℕ → Option LineCall
line_call line = cond (nat_le (length line) line_limit) (call_of_bytes (unhex line)) None

-- the bytes that were read from a line, as a slice, are those of its frame; none were read where the line asks for no call
abbrev pub Frames : List ℕ → Option (Bor (List ℕ)) → Type 0
Frames line (Some frame) = line_call line ≡ call_of frame.now
Frames line None = line_call line ≡ None
