use Rattle.side_tables.specs.Rows.{copies_of}
use Rattle.packet_store.specs.StoreReader.{stop_by}
use Rattle.flight_chain.specs.Compressing.{compress_course, stop_by as flight_stop}
use Rattle.loss_player.specs.Playing.{play_course}
use Rattle.ground_chain.specs.Listing.{listing_course}
use Rattle.ground_chain.specs.Restoring.{restore_course}
use Rattle.late_window.specs.Restoring.{late_course}
use Rattle.forecast.specs.Outlooks.{foresees, forecast_text}
use Rattle.multi_ground.specs.MultiOutputs.{multi_course}
use Rattle.param_table.specs.Tabling.{table_course}
use Rattle.pocket_cmd.specs.Courses.{of_recording, of_store}
use Rattle.pocket_cmd.proofs.Faults.{HasClassCause-stop, IsEnded-done, IsEnded-stop, IsEnded-text, IsEnded-text_cut}
use Rattle.pocket_cmd.proofs.job.Job.run.Goals as goal

pub returns-in-Ok-clause-ran : goal.returns-in-Ok-clause-ran
returns-in-Ok-clause-ran g c =
    rw c.in-Compress.is (IsEnded-done of_recording (compress_course c.in-Compress.flight) _ _ c.in-Ok.ensures.ran.ends)

pub returns-in-Err-clause-ran : goal.returns-in-Err-clause-ran
returns-in-Err-clause-ran g c =
    rw c.in-Compress.is (IsEnded-stop of_recording (compress_course c.in-Compress.flight) _ _ (flight_stop c.in-Err.fault) c.into.result c.in-Err.ensures.ran c.into.ensures)

pub returns-in-Err-clause-cause : goal.returns-in-Err-clause-cause
returns-in-Err-clause-cause g c =
    HasClassCause-stop of_recording _ _ (flight_stop c.in-Err.fault) c.into.result c.in-Err.ensures.cause c.into.ensures

pub returns-in-Ok-play-clause-ran : goal.returns-in-Ok-play-clause-ran
returns-in-Ok-play-clause-ran g c =
    rw c.in-Play.is (IsEnded-done of_store (play_course (copies_of c.in-Play.player.rows) c.in-Play.player.apid) _ _ c.in-Ok-play.ensures.ran.ends)

pub returns-in-Err-play-clause-ran : goal.returns-in-Err-play-clause-ran
returns-in-Err-play-clause-ran g c =
    rw c.in-Play.is (IsEnded-stop of_store (play_course (copies_of c.in-Play.player.rows) c.in-Play.player.apid) _ _ (stop_by c.in-Err-play.fault) c.into-in-Err-play.result c.in-Err-play.ensures.ran c.into-in-Err-play.ensures)

pub returns-in-Err-play-clause-cause : goal.returns-in-Err-play-clause-cause
returns-in-Err-play-clause-cause g c =
    HasClassCause-stop of_store _ _ (stop_by c.in-Err-play.fault) c.into-in-Err-play.result c.in-Err-play.ensures.cause c.into-in-Err-play.ensures

pub returns-in-Ok-restore-clause-ran : goal.returns-in-Ok-restore-clause-ran
returns-in-Ok-restore-clause-ran g c =
    rw c.in-Restore.is (IsEnded-done of_store (restore_course c.in-Restore.restorer.places c.in-Restore.restorer.apid) _ _ c.in-Ok-restore.ensures.ran.ends)

pub returns-in-Err-restore-clause-ran : goal.returns-in-Err-restore-clause-ran
returns-in-Err-restore-clause-ran g c =
    rw c.in-Restore.is (IsEnded-stop of_store (restore_course c.in-Restore.restorer.places c.in-Restore.restorer.apid) _ _ (stop_by c.in-Err-restore.fault) c.into-in-Err-restore.result c.in-Err-restore.ensures.ran c.into-in-Err-restore.ensures)

pub returns-in-Err-restore-clause-cause : goal.returns-in-Err-restore-clause-cause
returns-in-Err-restore-clause-cause g c =
    HasClassCause-stop of_store _ _ (stop_by c.in-Err-restore.fault) c.into-in-Err-restore.result c.in-Err-restore.ensures.cause c.into-in-Err-restore.ensures

pub returns-in-Ok-list-clause-ran : goal.returns-in-Ok-list-clause-ran
returns-in-Ok-list-clause-ran g c =
    rw c.in-Show.is (IsEnded-done of_store (listing_course c.in-Show.lister.places c.in-Show.lister.apid) _ _ c.in-Ok-list.ensures.ran.ends)

pub returns-in-Err-list-clause-ran : goal.returns-in-Err-list-clause-ran
returns-in-Err-list-clause-ran g c =
    rw c.in-Show.is (IsEnded-stop of_store (listing_course c.in-Show.lister.places c.in-Show.lister.apid) _ _ (stop_by c.in-Err-list.fault) c.into-in-Err-list.result c.in-Err-list.ensures.ran c.into-in-Err-list.ensures)

pub returns-in-Err-list-clause-cause : goal.returns-in-Err-list-clause-cause
returns-in-Err-list-clause-cause g c =
    HasClassCause-stop of_store _ _ (stop_by c.in-Err-list.fault) c.into-in-Err-list.result c.in-Err-list.ensures.cause c.into-in-Err-list.ensures

pub returns-in-Ok-write_text-clause-ran : goal.returns-in-Ok-write_text-clause-ran
returns-in-Ok-write_text-clause-ran g c =
    rw c.in-Trial.is (IsEnded-text c.in-Trial.text.items _ _ c.in-Ok-write_text.ensures.wrote)

pub returns-in-Err-write_text-clause-ran : goal.returns-in-Err-write_text-clause-ran
returns-in-Err-write_text-clause-ran g c =
    rw c.in-Trial.is (IsEnded-text_cut c.in-Trial.text.items _ _ c.in-Err-write_text.ensures.front)

pub returns-in-Ok-restore-2-clause-ran : goal.returns-in-Ok-restore-2-clause-ran
returns-in-Ok-restore-2-clause-ran g c =
    rw c.in-Multi.is (IsEnded-done of_store (multi_course c.in-Multi.restorer) _ _ c.in-Ok-restore-2.ensures.ran.ends)

pub returns-in-Err-restore-2-clause-ran : goal.returns-in-Err-restore-2-clause-ran
returns-in-Err-restore-2-clause-ran g c =
    rw c.in-Multi.is (IsEnded-stop of_store (multi_course c.in-Multi.restorer) _ _ (stop_by c.in-Err-restore-2.fault) c.into-in-Err-restore-2.result c.in-Err-restore-2.ensures.ran c.into-in-Err-restore-2.ensures)

pub returns-in-Ok-restore-3-clause-ran : goal.returns-in-Ok-restore-3-clause-ran
returns-in-Ok-restore-3-clause-ran g c =
    rw c.in-Late.is (IsEnded-done of_store (late_course c.in-Late.restorer.places c.in-Late.restorer.apid c.in-Late.restorer.window) _ _ c.in-Ok-restore-3.ensures.ran.ends)

pub returns-in-Err-restore-3-clause-ran : goal.returns-in-Err-restore-3-clause-ran
returns-in-Err-restore-3-clause-ran g c =
    rw c.in-Late.is (IsEnded-stop of_store (late_course c.in-Late.restorer.places c.in-Late.restorer.apid c.in-Late.restorer.window) _ _ (stop_by c.in-Err-restore-3.fault) c.into-in-Err-restore-3.result c.in-Err-restore-3.ensures.ran c.into-in-Err-restore-3.ensures)

pub returns-in-Ok-tabulate-clause-ran : goal.returns-in-Ok-tabulate-clause-ran
returns-in-Ok-tabulate-clause-ran g c =
    rw c.in-Table.is (IsEnded-done of_recording (table_course c.in-Table.tabler) _ _ c.in-Ok-tabulate.ensures.ran.ends)

pub returns-in-Err-tabulate-clause-ran : goal.returns-in-Err-tabulate-clause-ran
returns-in-Err-tabulate-clause-ran g c =
    rw c.in-Table.is (IsEnded-stop of_recording (table_course c.in-Table.tabler) _ _ (flight_stop c.in-Err-tabulate.fault) c.into-in-Err-tabulate.result c.in-Err-tabulate.ensures.ran c.into-in-Err-tabulate.ensures)

pub returns-in-Err-tabulate-clause-cause : goal.returns-in-Err-tabulate-clause-cause
returns-in-Err-tabulate-clause-cause g c =
    HasClassCause-stop of_recording _ _ (flight_stop c.in-Err-tabulate.fault) c.into-in-Err-tabulate.result c.in-Err-tabulate.ensures.cause c.into-in-Err-tabulate.ensures

pub returns-in-Ok-write-clause-ran : goal.returns-in-Ok-write-clause-ran
returns-in-Ok-write-clause-ran g c =
    rw c.in-Forecast.is (IsEnded-text (forecast_text (foresees c.in-Forecast.forecast.outlook) c.in-Forecast.forecast.packets) _ _ c.in-Ok-write.ensures.written.wrote)

pub returns-in-Err-write-clause-ran : goal.returns-in-Err-write-clause-ran
returns-in-Err-write-clause-ran g c =
    rw c.in-Forecast.is (IsEnded-text_cut (forecast_text (foresees c.in-Forecast.forecast.outlook) c.in-Forecast.forecast.packets) _ _ c.in-Err-write.ensures.written.front)
