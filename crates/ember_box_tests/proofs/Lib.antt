mod BroadScenes
