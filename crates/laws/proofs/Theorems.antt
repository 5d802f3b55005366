-- The theorems of the block, together.
-- Assumes nothing.
use Rattle.block.proofs.Deciding.{sound_says, sound_answers}
use Rattle.block.specs.Encode.{encode}
use Rattle.block.proofs.PositionsBack.{position-length}
use Rattle.block.proofs.Lengths.{block-length}
use Rattle.parser.specs.Read.{fill_of}
use Rattle.laws.specs.Blocks.{front_of, BlockTheorems}
use Rattle.laws.proofs.Made.{sound-encode}
use Rattle.laws.proofs.Decoded.{decode-encode, one_record}
use Rattle.laws.proofs.Encoded.{encode-decode, one_block}
use Rattle.laws.proofs.Formed.{decode_formed}
use Rattle.laws.proofs.Forming.{read_formed, read_done}
use Rattle.laws.proofs.Reading.{read-sound}

pub blocks_hold : BlockTheorems
blocks_hold =
    record {
      sound-encode = λ r f. sound_answers (encode r) (sound-encode r f);
      decode-encode = decode-encode;
      block-length = λ r f. block-length r (position-length r.position f.cells f.hands);
      decode_formed = λ b bs h. decode_formed b bs (sound_says b h);
      encode-decode = λ b bs h. encode-decode b (sound_says b h) bs;
      one_record = one_record;
      one_block = λ b c bs cs h k e. one_block b c (sound_says b h) (sound_says c k) bs cs e;
      read_formed = λ s bs w n g. read_formed s bs w n g;
      read_done = read_done;
      read-sound = λ s o bs t m e. sound_answers (front_of m (fill_of s o)) (read-sound s o bs t m e);
    }
