-- What the calls of a folder that makes one file are, by the calls of the system.
use Rattle.std.proofs.Common.{◌≡◌, ℕ, List, [], ◌∷◌, ◌++◌, refl, ap, ◌∙◌}
use Rattle.std.specs.Prelude.{flat_map, Ok, Err}
use Rattle.byte_io.specs.Streams.{Answer, Calls, bytes_of_calls}
use Rattle.byte_io.specs.Writing.{AnyOffer, EachTakes}
use Rattle.file_folder.specs.Calls.{FolderCall, Done}
use Rattle.snap_file.specs.Saving.{HasSaved}
use Rattle.snap_file.specs.System.{SystemCall, CallOf, HasReplaced, WriteOf, Writes}

module _ {B S : Type 0} (did : S → SystemCall → S → Type 0) (system : B → S)
    (calls : B → FolderCall → Done → B → Type 0) (takes : B → List ℕ → Answer → B → Type 0) (failures : B → ℕ)
    (call_is : (s : B) (call : FolderCall) (done : Done) (t : B) → calls s call done t →
    CallOf did (system s) call done (system t))
    (write_is : (s : B) (offered : List ℕ) (answer : Answer) (t : B) → takes s offered answer t →
    WriteOf did (system s) answer (system t)) where
  writes_of : (s t : B) (answers : List Answer) → EachTakes answers → Calls (AnyOffer takes) s answers t →
      (parts : List (List ℕ)) × Writes did (system s) parts (system t)
      × (flat_map (λ part. part) parts ≡ bytes_of_calls answers)
  writes_of s t [] each run = ([], ap system run, refl)
  writes_of s t (Err fault ∷ answers) each run = absurd each
  writes_of s t (Ok bytes ∷ answers) each run =
      let more = writes_of run.0 t answers each.1 run.2 in
      (bytes ∷ more.0, (system run.0, write_is s run.1.0 (Ok bytes) run.0 run.1.1, more.1), ap (λ rest. bytes ++ rest) more.2)

  pub saved_by : (s t : B) (path text : List ℕ) → HasSaved calls takes failures s t path text →
      HasReplaced did (system s) path text
  saved_by s t path text saved =
      let synced = saved.file in
      let written = synced.is_written in
      let all = writes_of written.made synced.written written.all_taken.answers written.all_taken.each
      written.all_taken.calls in
      record {
        made = system written.made;
        is_made = call_is _ _ _ _ written.is_made;
        parts = all.0;
        written = system synced.written;
        are_written = all.1;
        whole = all.2 ∙ written.all_taken.bytes_are;
        synced = system saved.synced;
        is_synced = call_is _ _ _ _ synced.is_synced;
        end = system t;
        renamed = call_is _ _ _ _ saved.is_renamed;
      }
